use Rattle.std.proofs.Common.{◌≡◌}
use Rattle.fdb_owners.specs.Ownership.{resolvers_of}
use Rattle.fdb_tests.proofs.owning.first_large.Given as goal

abbrev pub invariant-loop-version : goal.invariant-loop-version
invariant-loop-version l = resolvers_of l.owners ≡ 2
