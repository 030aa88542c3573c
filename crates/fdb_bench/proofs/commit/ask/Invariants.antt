use Rattle.std.proofs.Common.{◌≡◌}
use Rattle.fdb_bench.proofs.commit.ask.Given as goal

abbrev pub invariant-loop-part : goal.invariant-loop-part
invariant-loop-part l = l.core.proxy.owners.floor ≡ l.initial.core.proxy.owners.floor
