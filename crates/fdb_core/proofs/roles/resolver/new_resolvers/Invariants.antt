use Rattle.std.proofs.Common.{◌≡◌, length}
use Rattle.fdb_roles.specs.Lists.{Each}
use Rattle.fdb_core.specs.refinement.Starts.{IsNewResolver}
use Rattle.fdb_core.proofs.roles.resolver.new_resolvers.Given as goal

abbrev pub invariant-loop-index : goal.invariant-loop-index
invariant-loop-index l = (length l.list.items ≡ l.index) × Each IsNewResolver l.list.items
