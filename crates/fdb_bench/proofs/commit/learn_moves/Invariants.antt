use Rattle.std.proofs.Common.{◌≤◌, ◌-◌}
use Rattle.fdb_txn.specs.Limits.{window}
use Rattle.fdb_bench.proofs.commit.learn_moves.Given as goal

abbrev pub invariant-loop-number : goal.invariant-loop-number
invariant-loop-number l = l.core.proxy.owners.floor ≤ l.number - window
