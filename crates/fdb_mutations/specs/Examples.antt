-- Rows that the definitions give.
use Rattle.std.specs.Prelude.{◌≡◌, ℕ, true, false, List, [], ◌∷◌, replicate, Some, None}
use Rattle.fdb_keys.specs.Ranges.{Range}
use Rattle.fdb_keys.specs.declared.refusal.Refusal.TheVariants.{BadOperand}
use Rattle.fdb_mutations.specs.declared.mutation.Mutation.TheVariants.{Set, Clear, ClearRange, Add, And, Or, Xor, Max}
use Rattle.fdb_mutations.specs.declared.mutation.Mutation.TheVariants.{Min, ByteMin, ByteMax, CompareAndClear, Stamped}
use Rattle.fdb_mutations.specs.Maps.{Map}
use Rattle.fdb_mutations.specs.Mutations.{carried, new_value, is_blind, mutation_fault, mutation_size, clipped_mutation}
use Rattle.fdb_mutations.specs.Mutations.{effect, effect_of}

-- a value of one byte, and one of two
abbrev pub one : ℕ → List ℕ
one byte = byte ∷ []

abbrev pub two : ℕ → ℕ → List ℕ
two first second = first ∷ second ∷ []

-- the range from one key of one byte to another
abbrev pub span : ℕ → ℕ → Range
span begin end = record { begin = one begin; end = one end }

-- what each kind leaves of an old value
abbrev pub WorkedExamples : Type 0
WorkedExamples =
    (key : List ℕ)
    → (new_value (Set key (one 5)) None ≡ Some (one 5))
    × (new_value (Clear key) (Some (one 5)) ≡ None)
    × (new_value (Add key (two 1 0)) (Some (one 255)) ≡ Some (two 0 1))
    × (new_value (Add key (one 1)) (Some (two 255 7)) ≡ Some (one 0))
    × (new_value (Add key (one 5)) None ≡ Some (one 5))
    × (new_value (Add key []) (Some (one 7)) ≡ Some (one 7))
    × (new_value (And key (one 15)) None ≡ Some (one 15))
    × (new_value (And key (two 15 15)) (Some (one 255)) ≡ Some (two 15 0))
    × (new_value (Or key []) (Some (one 7)) ≡ Some [])
    × (new_value (Or key (one 15)) (Some (one 241)) ≡ Some (one 255))
    × (new_value (Xor key (one 255)) None ≡ Some (one 255))
    × (new_value (Xor key (one 255)) (Some (two 15 1)) ≡ Some (one 240))
    × (new_value (Max key (two 1 2)) (Some (two 255 1)) ≡ Some (two 1 2))
    × (new_value (Max key (one 1)) (Some (one 2)) ≡ Some (one 2))
    × (new_value (Max key (two 1 2)) None ≡ Some (two 1 2))
    × (new_value (Min key (two 1 2)) (Some (two 255 1)) ≡ Some (two 255 1))
    × (new_value (Min key (two 5 0)) (Some (one 9)) ≡ Some (two 5 0))
    × (new_value (Min key (one 5)) None ≡ Some (one 5))
    × (new_value (ByteMax key (two 1 2)) (Some (two 255 1)) ≡ Some (two 255 1))
    × (new_value (ByteMax key (one 2)) (Some (one 1)) ≡ Some (one 2))
    × (new_value (ByteMax key (one 2)) None ≡ Some (one 2))
    × (new_value (ByteMin key (two 1 2)) (Some (two 255 1)) ≡ Some (two 1 2))
    × (new_value (ByteMin key (one 2)) (Some (one 1)) ≡ Some (one 1))
    × (new_value (ByteMin key (one 2)) None ≡ Some (one 2))
    × (new_value (CompareAndClear key (one 7)) (Some (one 7)) ≡ None)
    × (new_value (CompareAndClear key (one 7)) (Some (one 8)) ≡ Some (one 8))
    × (new_value (CompareAndClear key []) None ≡ None)
    × (mutation_fault (Add key []) ≡ Some BadOperand)
    × (mutation_fault (Add key (replicate 17 1)) ≡ Some BadOperand)
    × (mutation_fault (Add key (replicate 16 1)) ≡ None)
    × (new_value (Stamped key (one 5) 0) (Some (one 7)) ≡ Some (one 5))

-- How many bytes a mutation of each kind has whose key has one byte and whose value or operand has two, and one of a
-- range with bounds of one byte and of two.
abbrev pub WorkedSizes : Type 0
WorkedSizes =
    (mutation_size (Set (one 97) (two 1 2)) ≡ 3)
    × (mutation_size (Clear (one 97)) ≡ 1)
    × (mutation_size (ClearRange (record { begin = one 97; end = two 97 0 })) ≡ 3)
    × (mutation_size (Add (one 97) (two 1 2)) ≡ 3)
    × (mutation_size (And (one 97) (two 1 2)) ≡ 3)
    × (mutation_size (Or (one 97) (two 1 2)) ≡ 3)
    × (mutation_size (Xor (one 97) (two 1 2)) ≡ 3)
    × (mutation_size (Max (one 97) (two 1 2)) ≡ 3)
    × (mutation_size (Min (one 97) (two 1 2)) ≡ 3)
    × (mutation_size (ByteMin (one 97) (two 1 2)) ≡ 3)
    × (mutation_size (ByteMax (one 97) (two 1 2)) ≡ 3)
    × (mutation_size (CompareAndClear (one 97) (two 1 2)) ≡ 3)
    × (mutation_size (Stamped (one 97) (two 1 2) 0) ≡ 3)

-- Every kind but a clear of a key and one of a range carries the value or operand that it was made with.
abbrev pub OperandsAreCarried : Type 0
OperandsAreCarried =
    (key operand : List ℕ)
    → (carried (Set key operand) ≡ operand)
    × (carried (Add key operand) ≡ operand)
    × (carried (And key operand) ≡ operand)
    × (carried (Or key operand) ≡ operand)
    × (carried (Xor key operand) ≡ operand)
    × (carried (Max key operand) ≡ operand)
    × (carried (Min key operand) ≡ operand)
    × (carried (ByteMin key operand) ≡ operand)
    × (carried (ByteMax key operand) ≡ operand)
    × (carried (CompareAndClear key operand) ≡ operand)
    × (carried (Stamped key operand 3) ≡ operand)

-- What is left of a clear of a range that is cut to the keys from 2 to 5: all of it, its part there, or nothing where
-- the two have no point in common. A mutation of a key that lies there is left as it is, and one of another key isn't.
abbrev pub WorkedClips : Type 0
WorkedClips =
    (clipped_mutation (span 2 5) (ClearRange (span 3 4)) ≡ Some (ClearRange (span 3 4)))
    × (clipped_mutation (span 2 5) (ClearRange (span 1 9)) ≡ Some (ClearRange (span 2 5)))
    × (clipped_mutation (span 2 5) (ClearRange (span 1 3)) ≡ Some (ClearRange (span 2 3)))
    × (clipped_mutation (span 2 5) (ClearRange (span 4 9)) ≡ Some (ClearRange (span 4 5)))
    × (clipped_mutation (span 2 5) (ClearRange (span 1 2)) ≡ None)
    × (clipped_mutation (span 2 5) (ClearRange (span 5 9)) ≡ None)
    × (clipped_mutation (span 2 5) (ClearRange (span 3 3)) ≡ None)
    × (clipped_mutation (span 3 3) (ClearRange (span 1 9)) ≡ None)
    × (clipped_mutation (span 2 5) (Set (one 1) (one 7)) ≡ None)
    × (clipped_mutation (span 2 5) (Set (one 2) (one 7)) ≡ Some (Set (one 2) (one 7)))
    × (clipped_mutation (span 2 5) (Clear (two 4 9)) ≡ Some (Clear (two 4 9)))
    × (clipped_mutation (span 2 5) (Clear (one 5)) ≡ None)
    × (clipped_mutation (span 2 5) (Add (one 3) (one 7)) ≡ Some (Add (one 3) (one 7)))
    × (clipped_mutation (span 2 5) (And (one 3) (one 7)) ≡ Some (And (one 3) (one 7)))
    × (clipped_mutation (span 2 5) (Or (one 3) (one 7)) ≡ Some (Or (one 3) (one 7)))
    × (clipped_mutation (span 2 5) (Xor (one 3) (one 7)) ≡ Some (Xor (one 3) (one 7)))
    × (clipped_mutation (span 2 5) (Max (one 3) (one 7)) ≡ Some (Max (one 3) (one 7)))
    × (clipped_mutation (span 2 5) (Min (one 3) (one 7)) ≡ Some (Min (one 3) (one 7)))
    × (clipped_mutation (span 2 5) (ByteMin (one 3) (one 7)) ≡ Some (ByteMin (one 3) (one 7)))
    × (clipped_mutation (span 2 5) (ByteMax (one 3) (one 7)) ≡ Some (ByteMax (one 3) (one 7)))
    × (clipped_mutation (span 2 5) (CompareAndClear (one 3) (one 7)) ≡ Some (CompareAndClear (one 3) (one 7)))
    × (clipped_mutation (span 2 5) (Stamped (one 3) (one 7) 4) ≡ Some (Stamped (one 3) (one 7) 4))
    × (clipped_mutation (span 2 5) (Stamped (one 6) (one 7) 4) ≡ None)
    × ((map : Map) → effect_of map None ≡ map)
    × ((map : Map) → effect_of map (Some (Clear (one 3))) ≡ effect map (Clear (one 3)))

-- A set, the clears and a stamped value are blind, and no other kind is.
abbrev pub WorkedBlindness : Type 0
WorkedBlindness =
    (key operand : List ℕ) (range : Range)
    → (is_blind (Set key operand) ≡ true)
    × (is_blind (Clear key) ≡ true)
    × (is_blind (ClearRange range) ≡ true)
    × (is_blind (Add key operand) ≡ false)
    × (is_blind (And key operand) ≡ false)
    × (is_blind (Or key operand) ≡ false)
    × (is_blind (Xor key operand) ≡ false)
    × (is_blind (Max key operand) ≡ false)
    × (is_blind (Min key operand) ≡ false)
    × (is_blind (ByteMin key operand) ≡ false)
    × (is_blind (ByteMax key operand) ≡ false)
    × (is_blind (CompareAndClear key operand) ≡ false)
    × (is_blind (Stamped key operand 0) ≡ true)
