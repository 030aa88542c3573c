-- What a committed transaction writes.
use Rattle.std.specs.Prelude.{ℕ, List, map}
use Rattle.fdb_mutations.specs.declared.mutation.Mutation.{Mutation}
use Rattle.fdb_mutations.specs.Stamping.{stamped}
use Rattle.fdb_mutations.specs.Stamps.{stamp_bytes}
use Rattle.fdb_txn.specs.book.Book.{Place}

-- mutations with the stamp of a place of a version
abbrev pub stamped_by : (version place : ℕ) → List Mutation → List Mutation
stamped_by version place mutations = map (stamped (stamp_bytes version place)) mutations

-- a place's mutations, stamped by its version and its number in the entry
abbrev pub stamped_at : Place → List Mutation
stamped_at place = stamped_by place.version place.number place.transaction.mutations
