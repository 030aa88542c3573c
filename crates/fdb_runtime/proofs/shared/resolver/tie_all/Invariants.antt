use Rattle.std.proofs.Common.{◌≡◌, length}
use Rattle.fdb_runtime.proofs.shared.resolver.tie_all.Given as goal

abbrev pub invariant-loop-resolver : goal.invariant-loop-resolver
invariant-loop-resolver g l = length l.ends.items ≡ l.resolver-index
