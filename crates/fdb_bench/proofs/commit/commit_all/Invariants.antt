use Rattle.std.proofs.Common.{◌≤◌, ◌+◌, ◌-◌, ◌*◌}
use Rattle.fdb_txn.specs.Limits.{window}
use Rattle.fdb_bench.proofs.commit.commit_all.Given as goal

abbrev pub invariant-loop-batch : goal.invariant-loop-batch
invariant-loop-batch g l = l.core.proxy.owners.floor ≤ (l.begin + l.batch * 1000) - window
