-- What programs that read keys, or add ranges that they read, are answered, and read, computed.
use Rattle.std.specs.Prelude.{◌≡◌, ℕ, true, false, List, [], ◌∷◌, Some, None}
use Rattle.fdb_keys.specs.Ranges.{Range, single_range}
use Rattle.fdb_mutations.specs.declared.mutation.Mutation.{Mutation}
use Rattle.fdb_mutations.specs.declared.mutation.Mutation.TheVariants.{Set, Clear, Add, And, Or, Xor, Max, Min, ByteMin}
use Rattle.fdb_mutations.specs.declared.mutation.Mutation.TheVariants.{ByteMax, CompareAndClear}
use Rattle.fdb_mutations.specs.Examples.{one, span}
use Rattle.fdb_client.specs.declared.program.Op.{Op}
use Rattle.fdb_client.specs.declared.program.Op.TheVariants.{Get, Write, AddRead, AddWrite}
use Rattle.fdb_client.specs.declared.program.Reply.TheVariants.{Value, Done}
use Rattle.fdb_client.specs.ReadExamples.{replied, read_by, reading, clears, adds}

-- an ordinary read of a key of one byte, and a snapshot read of it
abbrev pub get : ℕ → Op
get key = Get (one key) false

abbrev pub peek : ℕ → Op
peek key = Get (one key) true

-- the range of a key of one byte
abbrev pub single : ℕ → Range
single key = single_range (one key)

-- what is read of key 2 after a mutation
abbrev pub read_after : Mutation → List Range
read_after mutation = read_by (get 2 ∷ Write mutation ∷ [])

-- A key is read with its value or with none, unless by a snapshot read. One that was set or cleared before is decided,
-- and so not read, also where an atomic operation comes before that or after it; one that atomic operations alone
-- changed is read, and so is one that is written later. A range that is added is read whole, its decided part too, and
-- decides nothing; nor does one that is added to what is written. One without a point adds nothing.
abbrev pub WorkedKeyReads : Type 0
WorkedKeyReads =
    (replied (get 1 ∷ []) ≡ Value (Some (one 5)) ∷ [])
    × (read_by (get 1 ∷ []) ≡ single 1 ∷ [])
    × (replied (get 4 ∷ []) ≡ Value None ∷ [])
    × (read_by (get 4 ∷ []) ≡ single 4 ∷ [])
    × (replied (peek 1 ∷ []) ≡ Value (Some (one 5)) ∷ [])
    × (read_by (peek 1 ∷ []) ≡ [])
    × (replied (get 2 ∷ Write (Set (one 2) (one 9)) ∷ []) ≡ Value (Some (one 9)) ∷ Done ∷ [])
    × (read_after (Set (one 2) (one 9)) ≡ [])
    × (replied (get 2 ∷ Write (Clear (one 2)) ∷ []) ≡ Value None ∷ Done ∷ [])
    × (read_after (Clear (one 2)) ≡ [])
    × (replied (get 2 ∷ clears ∷ []) ≡ Value None ∷ Done ∷ [])
    × (read_by (get 2 ∷ clears ∷ []) ≡ [])
    × (replied (get 3 ∷ clears ∷ []) ≡ Value (Some (one 7)) ∷ Done ∷ [])
    × (read_by (get 3 ∷ clears ∷ []) ≡ single 3 ∷ [])
    × (read_by (get 3 ∷ Write (Set (one 2) (one 9)) ∷ []) ≡ single 3 ∷ [])
    × (replied (get 2 ∷ adds ∷ []) ≡ Value (Some (one 7)) ∷ Done ∷ [])
    × (replied (peek 2 ∷ adds ∷ []) ≡ Value (Some (one 7)) ∷ Done ∷ [])
    × (read_by (peek 2 ∷ adds ∷ []) ≡ [])
    × (read_after (Add (one 2) (one 1)) ≡ single 2 ∷ [])
    × (read_after (And (one 2) (one 1)) ≡ single 2 ∷ [])
    × (read_after (Or (one 2) (one 1)) ≡ single 2 ∷ [])
    × (read_after (Xor (one 2) (one 1)) ≡ single 2 ∷ [])
    × (read_after (Max (one 2) (one 1)) ≡ single 2 ∷ [])
    × (read_after (Min (one 2) (one 1)) ≡ single 2 ∷ [])
    × (read_after (ByteMin (one 2) (one 1)) ≡ single 2 ∷ [])
    × (read_after (ByteMax (one 2) (one 1)) ≡ single 2 ∷ [])
    × (read_after (CompareAndClear (one 2) (one 6)) ≡ single 2 ∷ [])
    × (replied (get 2 ∷ adds ∷ Write (Set (one 2) (one 9)) ∷ []) ≡ Value (Some (one 10)) ∷ Done ∷ Done ∷ [])
    × (read_by (get 2 ∷ adds ∷ Write (Set (one 2) (one 9)) ∷ []) ≡ [])
    × (replied (get 2 ∷ Write (Set (one 2) (one 9)) ∷ adds ∷ []) ≡ Value (Some (one 9)) ∷ Done ∷ Done ∷ [])
    × (read_by (get 2 ∷ Write (Set (one 2) (one 9)) ∷ adds ∷ []) ≡ [])
    × (read_by (Write (Set (one 2) (one 9)) ∷ get 2 ∷ []) ≡ single 2 ∷ [])
    × (read_by (get 2 ∷ Write (Set (one 2) (one 9)) ∷ get 2 ∷ []) ≡ single 2 ∷ [])
    × (read_by (get 4 ∷ get 1 ∷ []) ≡ single 1 ∷ single 4 ∷ [])
    × (read_by (AddRead (span 1 3) ∷ []) ≡ span 1 3 ∷ [])
    × (read_by (AddRead (span 2 2) ∷ []) ≡ [])
    × (read_by (AddRead (span 1 3) ∷ clears ∷ []) ≡ span 1 3 ∷ [])
    × (read_by (AddRead (span 1 3) ∷ get 5 ∷ get 1 ∷ []) ≡ span 1 3 ∷ single 5 ∷ [])
    × (read_by (get 4 ∷ AddRead (span 1 9) ∷ []) ≡ span 1 9 ∷ [])
    × (read_by (reading (span 1 3) 0 false ∷ AddRead (span 1 3) ∷ []) ≡ span 1 3 ∷ [])
    × (read_by (AddWrite (span 1 3) ∷ []) ≡ [])
    × (read_by (get 2 ∷ AddWrite (span 1 3) ∷ []) ≡ single 2 ∷ [])
    × (read_by (adds ∷ []) ≡ [])
