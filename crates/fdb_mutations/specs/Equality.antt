-- What `==` says: two mutations are equal exactly where they are the same.
use Rattle.std.specs.Prelude.{Bool}
use Rattle.fdb_mutations.specs.declared.mutation.Mutation.{Mutation}
use Rattle.fdb_mutations.specs.contracts.mutation.MutationPartialEq.TheImpl as of_mutations

-- `==` of two mutations
abbrev pub mutation_eq : Mutation → Mutation → Bool
mutation_eq = (of_mutations.ghosts).eq
