use Rattle.fdb_keys.proofs.Exports.{cmp_less}
use Rattle.fdb_interval.proofs.BreaksLemmas.{rising_from_sorted}
use Rattle.fdb_interval.proofs.newer.list_newer_by_keys.Goals as goal

pub range-point-items-requires : goal.range-point-items-requires
range-point-items-requires c =
    rw (c.begin.ensures, c.end.ensures.value)
    (cmp_less c.args.range.now.begin c.args.range.now.end c.requires)

pub returns-clause-rising : goal.returns-clause-rising
returns-clause-rising c = rising_from_sorted c.args.breaks.now.entries c.range-point-items.ensures.ordered
