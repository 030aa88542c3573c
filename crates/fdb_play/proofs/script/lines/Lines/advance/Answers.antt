use Rattle.std.proofs.Common.{rules, ◌<◌, length}
use Rattle.fdb_play.proofs.lemmas.Lines.{LosesLine-first}
use Rattle.fdb_play.proofs.script.lines.Lines.advance.Goals as goal

pub returns-in-Ok-clause-line : goal.returns-in-Ok-clause-line
returns-in-Ok-clause-line g c = λ _.
    let some : 0 < length c.read_until.new.buf.items = search rules in
    rw c.drop_line_end.ensures
    (LosesLine-first _ _ _ _ c.clear.ensures.items c.in-Ok.ensures.bytes c.in-Ok.ensures.rest some)
