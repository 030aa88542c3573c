use Rattle.std.proofs.Common.{◌≡◌, length}
use Rattle.fdb_resolver.specs.Resolvers.{IsNew}
use Rattle.fdb_roles.specs.Lists.{Each}
use Rattle.fdb_check.proofs.judge.new_cores.Given as goal

abbrev pub invariant-loop-index : goal.invariant-loop-index
invariant-loop-index l = (length l.resolvers.items ≡ l.index) × Each IsNew l.resolvers.items
