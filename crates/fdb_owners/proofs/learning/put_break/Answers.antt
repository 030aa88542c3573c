use Rattle.fdb_interval.proofs.Exports.{rising_from_sorted}
use Rattle.fdb_owners.proofs.learning.put_break.Goals as goal

pub returns-in_err-insert-clause-rising : goal.returns-in_err-insert-clause-rising
returns-in_err-insert-clause-rising c = rising_from_sorted c.args.breaks.now.entries c.insert.ensures.was_ordered

pub returns-clause-rising : goal.returns-clause-rising
returns-clause-rising c = rising_from_sorted c.args.breaks.now.entries c.insert.ensures.was_ordered
