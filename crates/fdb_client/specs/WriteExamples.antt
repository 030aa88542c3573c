-- What programs write, and what is submitted of a transcript, computed.
use Rattle.std.specs.Prelude.{◌≡◌, true, false, List, [], ◌∷◌, Some}
use Rattle.fdb_mutations.specs.declared.mutation.Mutation.TheVariants.{Set, Clear, ClearRange, Add, And, Or, Xor, Max}
use Rattle.fdb_mutations.specs.declared.mutation.Mutation.TheVariants.{Min, ByteMin, ByteMax, CompareAndClear}
use Rattle.fdb_mutations.specs.Examples.{one, span}
use Rattle.fdb_client.specs.declared.program.Op.{Op}
use Rattle.fdb_client.specs.declared.program.Op.TheVariants.{Write, AddRead, AddWrite}
use Rattle.fdb_client.specs.declared.program.Reply.{Reply}
use Rattle.fdb_client.specs.declared.program.Reply.TheVariants.{Value, Done}
use Rattle.fdb_client.specs.declared.program.Transcript.{Transcript}
use Rattle.fdb_client.specs.KeyExamples.{get, peek, single}
use Rattle.fdb_client.specs.Programs.{write_ranges, mutations_of, commit_request_of, is_read_only}
use Rattle.fdb_client.specs.ReadExamples.{reading, clears, adds}

-- a transaction's operations with their replies, the first one first
abbrev pub transcript : List (Op × Reply) → Transcript
transcript ops = record { id = record { session = 1; number = 2 }; read_version = 40; ops = ops }

-- an operation that gives nothing
abbrev pub done : Op → Op × Reply
done op = (op, Done)

-- A mutation writes what it names, of every kind, and a range that is added is written whole; reads and a range that is
-- added to what is read write nothing, nor does a range without a point. The mutations are those of the writes alone,
-- the first one first, and all of this is submitted. A transaction is read-only that has neither a mutation, be it one
-- that clears nothing, nor a range to write.
abbrev pub WorkedWrites : Type 0
WorkedWrites =
    (write_ranges (Write (Set (one 1) (one 9)) ∷ []) ≡ single 1 ∷ [])
    × (write_ranges (Write (Clear (one 1)) ∷ []) ≡ single 1 ∷ [])
    × (write_ranges (clears ∷ []) ≡ span 2 3 ∷ [])
    × (write_ranges (Write (ClearRange (span 2 2)) ∷ []) ≡ [])
    × (write_ranges (adds ∷ []) ≡ single 2 ∷ [])
    × (write_ranges (Write (And (one 1) (one 9)) ∷ []) ≡ single 1 ∷ [])
    × (write_ranges (Write (Or (one 1) (one 9)) ∷ []) ≡ single 1 ∷ [])
    × (write_ranges (Write (Xor (one 1) (one 9)) ∷ []) ≡ single 1 ∷ [])
    × (write_ranges (Write (Max (one 1) (one 9)) ∷ []) ≡ single 1 ∷ [])
    × (write_ranges (Write (Min (one 1) (one 9)) ∷ []) ≡ single 1 ∷ [])
    × (write_ranges (Write (ByteMin (one 1) (one 9)) ∷ []) ≡ single 1 ∷ [])
    × (write_ranges (Write (ByteMax (one 1) (one 9)) ∷ []) ≡ single 1 ∷ [])
    × (write_ranges (Write (CompareAndClear (one 1) (one 9)) ∷ []) ≡ single 1 ∷ [])
    × (write_ranges (AddWrite (span 1 3) ∷ []) ≡ span 1 3 ∷ [])
    × (write_ranges (AddWrite (span 3 3) ∷ []) ≡ [])
    × (write_ranges (AddWrite (span 1 3) ∷ adds ∷ []) ≡ span 1 3 ∷ [])
    × (write_ranges (adds ∷ Write (Set (one 5) (one 9)) ∷ []) ≡ single 2 ∷ single 5 ∷ [])
    × (write_ranges (get 1 ∷ peek 2 ∷ reading (span 1 3) 0 false ∷ AddRead (span 1 3) ∷ []) ≡ [])
    × (mutations_of (Write (Clear (one 1)) ∷ adds ∷ clears ∷ [])
    ≡ ClearRange (span 2 3) ∷ Add (one 2) (one 1) ∷ Clear (one 1) ∷ [])
    × (mutations_of (adds ∷ adds ∷ []) ≡ Add (one 2) (one 1) ∷ Add (one 2) (one 1) ∷ [])
    × (mutations_of (get 1 ∷ peek 2 ∷ reading (span 1 3) 0 false ∷ AddRead (span 1 3) ∷ AddWrite (span 1 3) ∷ [])
    ≡ [])
    × (commit_request_of (transcript
    (done adds ∷ (get 2, Value (Some (one 7))) ∷ done (AddWrite (span 7 8)) ∷ (get 7, Value (Some (one 1)))
    ∷ done (Write (Set (one 7) (one 9))) ∷ (get 7, Value (Some (one 9))) ∷ []))
    ≡ record {
      id = record { session = 1; number = 2 };
      read = 40;
      reads = single 2 ∷ single 7 ∷ [];
      writes = single 2 ∷ span 7 8 ∷ [];
      mutations = Add (one 2) (one 1) ∷ Set (one 7) (one 9) ∷ [];
    })
    × (is_read_only (transcript []) ≡ true)
    × (is_read_only (transcript ((get 2, Value (Some (one 6))) ∷ done (AddRead (span 1 3)) ∷ [])) ≡ true)
    × (is_read_only (transcript (done (AddWrite (span 3 3)) ∷ [])) ≡ true)
    × (is_read_only (transcript (done (AddWrite (span 1 3)) ∷ [])) ≡ false)
    × (is_read_only (transcript (done (Write (ClearRange (span 2 2))) ∷ [])) ≡ false)
    × (is_read_only (transcript (done adds ∷ [])) ≡ false)
