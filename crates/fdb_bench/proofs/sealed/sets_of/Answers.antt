use Rattle.std.proofs.Common.{◌≡◌, None}
use Rattle.std.proofs.lemmas.List.Elements.{All-push}
use Rattle.fdb_mutations.specs.declared.mutation.Mutation.{Mutation}
use Rattle.fdb_mutations.specs.Mutations.{mutation_fault}
use Rattle.fdb_bench.proofs.sealed.sets_of.Goals as goal

-- the mutation is a legal one
abbrev IsLegal : Mutation → Type 0
IsLegal mutation = mutation_fault mutation ≡ None

pub loop-key-preserved : goal.loop-key-preserved
loop-key-preserved c =
    rw c.in_ok-push.ensures.ok
    (All-push IsLegal c.loop-key.sets c.in_ok-legal_set.field-0 c.loop-key.invariant c.in_ok-legal_set.ensures)
