use Rattle.std.proofs.Common.{◌≡◌, All, None}
use Rattle.fdb_mutations.specs.Mutations.{mutation_fault}
use Rattle.fdb_tests.proofs.transactions.hundred_sets.Given as goal

abbrev pub invariant-loop-key : goal.invariant-loop-key
invariant-loop-key l = All (λ mutation. mutation_fault mutation ≡ None) l.mutations
