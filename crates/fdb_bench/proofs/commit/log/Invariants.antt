use Rattle.std.proofs.Common.{◌≡◌}
use Rattle.fdb_bench.proofs.commit.log.Given as goal

abbrev pub invariant-loop-message : goal.invariant-loop-message
invariant-loop-message l = l.core.proxy.owners.floor ≡ l.initial.core.proxy.owners.floor
