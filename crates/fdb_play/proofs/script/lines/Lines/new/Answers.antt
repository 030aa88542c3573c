use Rattle.std.proofs.KnownBytes.{prepend_known-nil}
use Rattle.fdb_play.proofs.script.lines.Lines.new.Goals as goal

pub returns-in-Ok-clause-left : goal.returns-in-Ok-clause-left
returns-in-Ok-clause-left g c =
    rw (c.in-Ok.ensures.capacity, c.in-Ok.ensures.empty, c.in-Ok.ensures.inner, c.new.ensures) (prepend_known-nil _)
