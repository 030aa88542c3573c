use Rattle.std.proofs.Common.{◌∙◌, sym}
use Rattle.fdb_keys.proofs.RangeMapLemmas.{last_by-some, last_by-none}
use Rattle.fdb_keys.proofs.range_map.last_by.Goals as goal

pub returns-in-Some : goal.returns-in-Some
returns-in-Some c =
    sym
    (last_by-some c.args.point.now c.args.ranges.now.entries c.next_back.new.self
    (c.in-Some._begin.now, c.in-Some.range.now) c.requires
    (sym (c.range.ensures.between tt) ∙ c.in-Some.ensures.steps))

pub returns-in-None : goal.returns-in-None
returns-in-None c =
    sym
    (last_by-none c.args.point.now c.args.ranges.now.entries c.requires
    (sym (c.range.ensures.between tt) ∙ c.in-None.ensures.steps.0))
