use Rattle.std.proofs.Common.{◌≡◌, length}
use Rattle.fdb_runtime.proofs.shared.resolver_roles.Given as goal

abbrev pub invariant-loop-number : goal.invariant-loop-number
invariant-loop-number g l = length l.made.items ≡ l.number
