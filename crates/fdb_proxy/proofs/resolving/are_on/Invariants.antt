use Rattle.std.proofs.Common.{◌≡◌, drop}
use Rattle.fdb_proxy.specs.Resolving.{are_on}
use Rattle.fdb_proxy.proofs.resolving.are_on.Given as goal

abbrev pub invariant-loop-at : goal.invariant-loop-at
invariant-loop-at l = are_on (drop l.at l.items) (drop l.at l.said) ≡ are_on l.items l.said
