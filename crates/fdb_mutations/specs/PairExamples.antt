-- What reads of a range are given and scanned, computed.
use Rattle.std.specs.Prelude.{◌≡◌, ℕ, true, false, List, [], ◌∷◌, length, Some, None}
use Rattle.std.specs.FinMap.{from_entries}
use Rattle.fdb_keys.specs.Points.{Point}
use Rattle.fdb_keys.specs.declared.refusal.Refusal.TheVariants.{ValueTooLarge}
use Rattle.fdb_mutations.specs.declared.mutation.Mutation.{Mutation}
use Rattle.fdb_mutations.specs.declared.mutation.Mutation.TheVariants.{Set}
use Rattle.fdb_mutations.specs.Examples.{one, two, span}
use Rattle.fdb_mutations.specs.Limits.{value_limit}
use Rattle.fdb_mutations.specs.Maps.{Map}
use Rattle.fdb_mutations.specs.Mutations.{carried, mutation_fault}
use Rattle.fdb_mutations.specs.PairLaws.{given_of, scanned_of}
use Rattle.fdb_mutations.specs.Pairs.{first_of, wanted, is_limit_reached, part_to_last, scanned}

-- a pair of one byte each, and three of them
abbrev pub pair : ℕ → ℕ → Point × List ℕ
pair key value = (one key, one value)

abbrev pub three_pairs : List (Point × List ℕ)
three_pairs = pair 1 5 ∷ pair 2 6 ∷ pair 3 7 ∷ []

abbrev pub three : Map
three = from_entries three_pairs

-- A limit that is reached at the last pair, before it, from the end, or not at all; no limit; and ranges with no pair,
-- with no point, and with bounds in the wrong order.
abbrev pub WorkedReads : Type 0
WorkedReads =
    (given_of three (span 1 9) 3 false ≡ three_pairs)
    × (scanned_of three (span 1 9) 3 false ≡ record { begin = one 1; end = two 3 0 })
    × (given_of three (span 1 9) 2 false ≡ pair 1 5 ∷ pair 2 6 ∷ [])
    × (scanned_of three (span 1 9) 2 false ≡ record { begin = one 1; end = two 2 0 })
    × (given_of three (span 0 9) 2 true ≡ pair 3 7 ∷ pair 2 6 ∷ [])
    × (scanned_of three (span 0 9) 2 true ≡ record { begin = one 2; end = one 9 })
    × (scanned_of three (span 0 9) 3 true ≡ record { begin = one 1; end = one 9 })
    × (given_of three (span 0 3) 3 false ≡ pair 1 5 ∷ pair 2 6 ∷ [])
    × (scanned_of three (span 0 3) 3 false ≡ span 0 3)
    × (given_of three (span 2 9) 0 false ≡ pair 2 6 ∷ pair 3 7 ∷ [])
    × (scanned_of three (span 2 9) 0 false ≡ span 2 9)
    × (given_of three (span 2 9) 0 true ≡ pair 3 7 ∷ pair 2 6 ∷ [])
    × (scanned_of three (span 2 9) 0 true ≡ span 2 9)
    × (given_of three (span 4 9) 1 false ≡ [])
    × (scanned_of three (span 4 9) 1 false ≡ span 4 9)
    × (given_of three (span 2 2) 1 true ≡ [])
    × (scanned_of three (span 2 2) 1 true ≡ span 2 2)
    × (given_of three (span 3 1) 1 false ≡ [])
    × (scanned_of three (span 3 1) 1 false ≡ span 3 1)

-- The limit of values on both sides; what no limit, one that is met and one that isn't give; how many items are asked
-- for to tell whether there are more; and what is scanned of a range by the pairs that were given.
abbrev pub WorkedLimits : Type 0
WorkedLimits =
    (value_limit ≡ 100000)
    × ((mutation : Mutation) → length (carried mutation) ≡ 100001 → mutation_fault mutation ≡ Some ValueTooLarge)
    × ((key value : List ℕ) → length value ≡ 100000 → mutation_fault (Set key value) ≡ None)
    × (first_of 0 three_pairs ≡ three_pairs)
    × (first_of 1 three_pairs ≡ pair 1 5 ∷ [])
    × (first_of 3 three_pairs ≡ three_pairs)
    × (first_of 4 three_pairs ≡ three_pairs)
    × (wanted 0 ≡ 0)
    × (wanted 1 ≡ 2)
    × (wanted 4294967294 ≡ 4294967295)
    × (wanted 4294967295 ≡ 0)
    × (is_limit_reached 0 [] ≡ false)
    × (is_limit_reached 0 three_pairs ≡ false)
    × (is_limit_reached 1 [] ≡ false)
    × (is_limit_reached 3 three_pairs ≡ true)
    × (is_limit_reached 4 three_pairs ≡ false)
    × (part_to_last (span 1 9) false None ≡ span 1 9)
    × (part_to_last (span 1 9) true None ≡ span 1 9)
    × (part_to_last (span 1 9) false (Some (pair 2 6)) ≡ record { begin = one 1; end = two 2 0 })
    × (part_to_last (span 1 9) true (Some (pair 2 6)) ≡ record { begin = one 2; end = one 9 })
    × (scanned (span 0 9) 0 false three_pairs ≡ span 0 9)
    × (scanned (span 0 9) 3 false three_pairs ≡ record { begin = one 0; end = two 3 0 })
    × (scanned (span 0 9) 4 false three_pairs ≡ span 0 9)
    × (scanned (span 0 9) 2 true (pair 3 7 ∷ pair 2 6 ∷ []) ≡ record { begin = one 2; end = one 9 })
