use Rattle.std.proofs.Common.{◌∙◌, sym}
use Rattle.fdb_interval.proofs.BreaksLemmas.{value-last-some, value-last-none}
use Rattle.fdb_interval.proofs.breakpoints.version_by.Goals as goal

pub returns-in-Some : goal.returns-in-Some
returns-in-Some c =
    value-last-some 0 c.args.breaks.now.entries c.next_back.new.self
    (c.in-Some._begin.now, c.in-Some.version.now) c.args.point.now
    (sym (c.range.ensures.between tt) ∙ c.in-Some.ensures.steps)

pub returns-in-None : goal.returns-in-None
returns-in-None c =
    value-last-none 0 c.args.breaks.now.entries c.args.point.now
    (sym (c.range.ensures.between tt) ∙ c.in-None.ensures.steps.0)
