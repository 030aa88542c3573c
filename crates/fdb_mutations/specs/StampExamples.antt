-- Stamps, and operands that are stamped, by rows.
use Rattle.std.specs.Prelude.{◌≡◌, ℕ, List, [], ◌∷◌, replicate, Some, None}
use Rattle.fdb_keys.specs.declared.refusal.Refusal.TheVariants.{BadOperand, ValueTooLarge}
use Rattle.fdb_mutations.specs.declared.mutation.Mutation.TheVariants.{Set, Add, Stamped}
use Rattle.fdb_mutations.specs.Mutations.{mutation_fault}
use Rattle.fdb_mutations.specs.Stamping.{stamped}
use Rattle.fdb_mutations.specs.Stamps.{stamp_bytes, with_stamp}

-- bytes that differ from every byte of the stamps here
abbrev pub plain : ℕ → List ℕ
plain count = replicate count 120

-- The stamps of two places of a batch, of two batches and of the greatest numbers; a stamp at the begin of an operand,
-- in its middle and at its end; an operand that has room for a stamp just so, and ones that haven't; and what isn't
-- stamped.
abbrev pub WorkedStamps : Type 0
WorkedStamps =
    (stamp_bytes 100 0 ≡ 0 ∷ 0 ∷ 0 ∷ 0 ∷ 0 ∷ 0 ∷ 0 ∷ 100 ∷ 0 ∷ 0 ∷ [])
    × (stamp_bytes 100 1 ≡ 0 ∷ 0 ∷ 0 ∷ 0 ∷ 0 ∷ 0 ∷ 0 ∷ 100 ∷ 0 ∷ 1 ∷ [])
    × (stamp_bytes 258 4095 ≡ 0 ∷ 0 ∷ 0 ∷ 0 ∷ 0 ∷ 0 ∷ 1 ∷ 2 ∷ 15 ∷ 255 ∷ [])
    × (stamp_bytes 18446744073709551615 65535 ≡ replicate 10 255)
    × (with_stamp (plain 10) 0 (stamp_bytes 1 2) ≡ 0 ∷ 0 ∷ 0 ∷ 0 ∷ 0 ∷ 0 ∷ 0 ∷ 1 ∷ 0 ∷ 2 ∷ [])
    × (with_stamp (plain 12) 1 (stamp_bytes 1 2) ≡ 120 ∷ 0 ∷ 0 ∷ 0 ∷ 0 ∷ 0 ∷ 0 ∷ 0 ∷ 1 ∷ 0 ∷ 2 ∷ 120 ∷ [])
    × (with_stamp (plain 12) 2 (stamp_bytes 1 2) ≡ 120 ∷ 120 ∷ 0 ∷ 0 ∷ 0 ∷ 0 ∷ 0 ∷ 0 ∷ 0 ∷ 1 ∷ 0 ∷ 2 ∷ [])
    × (stamped (stamp_bytes 1 2) (Stamped (7 ∷ []) (plain 10) 0) ≡ Set (7 ∷ []) (stamp_bytes 1 2))
    × (stamped (stamp_bytes 1 2) (Set (7 ∷ []) (plain 10)) ≡ Set (7 ∷ []) (plain 10))
    × (stamped (stamp_bytes 1 2) (Add (7 ∷ []) (plain 10)) ≡ Add (7 ∷ []) (plain 10))
    × (mutation_fault (Stamped (7 ∷ []) (plain 10) 0) ≡ None)
    × (mutation_fault (Stamped (7 ∷ []) (plain 12) 2) ≡ None)
    × (mutation_fault (Stamped (7 ∷ []) (plain 12) 3) ≡ Some BadOperand)
    × (mutation_fault (Stamped (7 ∷ []) (plain 9) 0) ≡ Some BadOperand)
    × (mutation_fault (Stamped (7 ∷ []) (plain 12) 4294967295) ≡ Some BadOperand)
    × (mutation_fault (Stamped (7 ∷ []) (replicate 100001 0) 100000) ≡ Some ValueTooLarge)
