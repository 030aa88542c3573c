use Rattle.std.proofs.Common.{◌≡◌, None}
use Rattle.std.proofs.lemmas.List.Elements.{All-push}
use Rattle.fdb_mutations.specs.declared.mutation.Mutation.{Mutation}
use Rattle.fdb_mutations.specs.Mutations.{mutation_fault}
use Rattle.fdb_tests.proofs.transactions.hundred_sets.Goals as goal

-- the mutation is a legal one
abbrev IsLegal : Mutation → Type 0
IsLegal mutation = mutation_fault mutation ≡ None

pub loop-key-preserved : goal.loop-key-preserved
loop-key-preserved c =
    rw c.in_ok-push.ensures
    (All-push IsLegal c.loop-key.mutations c.in_ok-legal_set.field-0 c.loop-key.invariant
    c.in_ok-legal_set.ensures)
