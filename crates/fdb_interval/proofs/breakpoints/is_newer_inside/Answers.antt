use Rattle.fdb_keys.proofs.Exports.{cmp_less}
use Rattle.fdb_interval.proofs.BreaksLemmas.{rising_from_sorted}
use Rattle.fdb_interval.proofs.breakpoints.is_newer_inside.Goals as goal

pub range-begin-items-requires : goal.range-begin-items-requires
range-begin-items-requires c =
    rw (c.begin.ensures, c.end.ensures.value)
    (cmp_less c.args.range.now.begin c.args.range.now.end c.requires)

pub returns-then-version-held-clause-rising : goal.returns-then-version-held-clause-rising
returns-then-version-held-clause-rising c =
    rising_from_sorted c.args.breaks.now.entries c.range-begin-items.ensures.ordered

pub returns-clause-rising : goal.returns-clause-rising
returns-clause-rising c = rising_from_sorted c.args.breaks.now.entries c.range-begin-items.ensures.ordered
