use Rattle.std.proofs.Common.{◌≡◌, ℕ, List, Option, fold, take}
use Rattle.fdb_mutations.specs.declared.mutation.Mutation.{Mutation}
use Rattle.fdb_mutations.specs.Mutations.{new_value}
use Rattle.fdb_client.proofs.reading.value_after.Given as goal

abbrev pub invariant-loop-mutation : goal.invariant-loop-mutation
invariant-loop-mutation l =
    l.value ≡ fold (λ (before : Option (List ℕ)) (mutation : Mutation). new_value mutation before) l.initial.value
    (take l.mutation-index l.mutations)
