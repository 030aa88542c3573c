use Rattle.std.proofs.Common.{length}
use Rattle.fdb_txn.proofs.splits.+rise_after.Given as goal

abbrev pub decreases-rise_after : goal.decreases-rise_after
decreases-rise_after l = length l.keys.now
