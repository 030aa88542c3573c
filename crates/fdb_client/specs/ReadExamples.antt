-- What programs that read ranges are answered, and read, computed.
use Rattle.std.specs.Prelude.{◌≡◌, ℕ, Bool, true, false, List, [], ◌∷◌}
use Rattle.fdb_keys.specs.Ranges.{Range}
use Rattle.fdb_mutations.specs.declared.mutation.Mutation.TheVariants.{Set, ClearRange, Add}
use Rattle.fdb_mutations.specs.Examples.{one, two, span}
use Rattle.fdb_mutations.specs.PairExamples.{pair, three_pairs, three}
use Rattle.fdb_client.specs.declared.program.Op.{Op}
use Rattle.fdb_client.specs.declared.program.Op.TheVariants.{Write}
use Rattle.fdb_client.specs.declared.program.Op.TheVariants as operation
use Rattle.fdb_client.specs.declared.program.Reply.{Reply}
use Rattle.fdb_client.specs.declared.program.Reply.TheVariants.{Pairs, Done}
use Rattle.fdb_client.specs.Programs.{exec, read_ranges}

-- an ordinary read of a range
abbrev pub reading : Range → ℕ → Bool → Op
reading range limit is_reverse = operation.Range range limit is_reverse false

-- what the map of three pairs replies to a program, and what the program reads on it
abbrev pub replied : List Op → List Reply
replied ops = exec three ops

abbrev pub read_by : List Op → List Range
read_by ops = read_ranges ops (replied ops)

-- a value that is set behind the last pair, a range that is cleared, and one more than what stands at a key
abbrev pub sets : Op
sets = Write (Set (one 5) (one 8))

abbrev pub clears : Op
clears = Write (ClearRange (span 2 3))

abbrev pub adds : Op
adds = Write (Add (one 2) (one 1))

-- A limit that is reached at the last pair of the map, or behind it at a value that the program set, which it decides
-- and so doesn't read; a limit from the end, reached or not; a range that was cleared, which is decided; a key that an
-- atomic operation changed, which isn't; a range without a point, and one that ends by the byte 255; and a snapshot
-- read, which reads nothing.
abbrev pub WorkedRangeReads : Type 0
WorkedRangeReads =
    (replied (reading (span 1 9) 3 false ∷ []) ≡ Pairs three_pairs ∷ [])
    × (read_by (reading (span 1 9) 3 false ∷ []) ≡ record { begin = one 1; end = two 3 0 } ∷ [])
    × (replied (reading (span 2 9) 3 false ∷ sets ∷ []) ≡ Pairs (pair 2 6 ∷ pair 3 7 ∷ pair 5 8 ∷ []) ∷ Done ∷ [])
    × (read_by (reading (span 2 9) 3 false ∷ sets ∷ []) ≡ span 2 5 ∷ [])
    × (replied (reading (span 0 9) 2 true ∷ sets ∷ []) ≡ Pairs (pair 5 8 ∷ pair 3 7 ∷ []) ∷ Done ∷ [])
    × (read_by (reading (span 0 9) 2 true ∷ sets ∷ [])
    ≡ span 3 5 ∷ record { begin = two 5 0; end = one 9 } ∷ [])
    × (replied (reading (span 0 9) 4 true ∷ []) ≡ Pairs (pair 3 7 ∷ pair 2 6 ∷ pair 1 5 ∷ []) ∷ [])
    × (read_by (reading (span 0 9) 4 true ∷ []) ≡ span 0 9 ∷ [])
    × (replied (reading (span 1 9) 2 false ∷ clears ∷ []) ≡ Pairs (pair 1 5 ∷ pair 3 7 ∷ []) ∷ Done ∷ [])
    × (read_by (reading (span 1 9) 2 false ∷ clears ∷ [])
    ≡ span 1 2 ∷ record { begin = one 3; end = two 3 0 } ∷ [])
    × (replied (reading (span 1 3) 0 false ∷ adds ∷ []) ≡ Pairs (pair 1 5 ∷ pair 2 7 ∷ []) ∷ Done ∷ [])
    × (read_by (reading (span 1 3) 0 false ∷ adds ∷ []) ≡ span 1 3 ∷ [])
    × (replied (reading (span 2 2) 1 false ∷ []) ≡ Pairs [] ∷ [])
    × (read_by (reading (span 2 2) 1 false ∷ []) ≡ [])
    × (replied (reading (span 3 255) 0 false ∷ []) ≡ Pairs (pair 3 7 ∷ []) ∷ [])
    × (read_by (reading (span 3 255) 0 false ∷ []) ≡ span 3 255 ∷ [])
    × (replied (operation.Range (span 2 9) 0 false true ∷ []) ≡ Pairs (pair 2 6 ∷ pair 3 7 ∷ []) ∷ [])
    × (read_by (operation.Range (span 2 9) 0 false true ∷ []) ≡ [])
