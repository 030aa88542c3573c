-- What a stamp makes of a mutation.
use Rattle.std.specs.Prelude.{◌≡◌, ◌<◌, ◌^◌, ◌⊎◌, ◌↔◌, ℕ, Bool, true, false, List, None}
use Rattle.fdb_keys.specs.Points.{point_lt}
use Rattle.fdb_mutations.specs.declared.mutation.Mutation.{Mutation}
use Rattle.fdb_mutations.specs.declared.mutation.Mutation.TheVariants.{Set, Stamped}
use Rattle.fdb_mutations.specs.Mutations.{named, mutation_fault, mutation_size}
use Rattle.fdb_mutations.specs.Stamps.{stamp_bytes, with_stamp}

-- the mutation waits for a stamp
abbrev pub is_stamped : Mutation → Bool
is_stamped (Stamped key operand offset) = true
is_stamped mutation = false

-- the mutation with the stamp: a Stamped sets its key, and any other stays as it is
abbrev pub stamped : List ℕ → Mutation → Mutation
stamped stamp (Stamped key operand offset) = Set key (with_stamp operand offset stamp)
stamped stamp mutation = mutation

-- no stamped mutation waits for a stamp
abbrev pub StampsAreFinal : Type 0
StampsAreFinal = (stamp : List ℕ) (mutation : Mutation) → is_stamped (stamped stamp mutation) ≡ false

-- a stamp changes no mutation's key or range
abbrev pub StampsKeepNames : Type 0
StampsKeepNames = (stamp : List ℕ) (mutation : Mutation) → named (stamped stamp mutation) ≡ named mutation

-- a legal mutation has as many bytes with the stamp of a place, and is a legal one
abbrev pub StampsKeepSizes : Type 0
StampsKeepSizes =
    (version place : ℕ) (mutation : Mutation) → mutation_fault mutation ≡ None
    → (mutation_size (stamped (stamp_bytes version place) mutation) ≡ mutation_size mutation)
    × (mutation_fault (stamped (stamp_bytes version place) mutation) ≡ None)

-- Stamps are in the order of commits: by version, and then by place.
abbrev pub StampsRise : Type 0
StampsRise =
    (version place other_version other_place : ℕ)
    → version < 2 ^ 64 → other_version < 2 ^ 64 → place < 2 ^ 16 → other_place < 2 ^ 16
    → (point_lt (stamp_bytes version place) (stamp_bytes other_version other_place) ≡ true)
    ↔ ((version < other_version) ⊎ ((version ≡ other_version) × (place < other_place)))
