use Rattle.fdb_interval.proofs.BreaksLemmas.{rising_from_sorted}
use Rattle.fdb_interval.proofs.breakpoints.count_above.Goals as goal

pub returns-clause-rising : goal.returns-clause-rising
returns-clause-rising c = rising_from_sorted c.args.breaks.now.entries c.values-version-items.ensures.ordered
