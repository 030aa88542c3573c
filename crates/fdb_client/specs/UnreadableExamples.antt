-- Which keys are unreadable after programs, and what of their reads is refused, computed.
use Rattle.std.specs.Prelude.{◌≡◌, ⊤, ℕ, Bool, true, false, List, [], ◌∷◌, Option, Some, None, Ok, Err, replicate}
use Rattle.std.specs.FinMap.{get}
use Rattle.fdb_keys.specs.declared.refusal.Refusal.{Refusal}
use Rattle.fdb_keys.specs.declared.refusal.Refusal.TheVariants.{NoMemory, AccessedUnreadable, TransactionTooOld}
use Rattle.fdb_keys.specs.Ranges.{Range}
use Rattle.fdb_mutations.specs.declared.mutation.Mutation.TheVariants.{Set, Clear, ClearRange, Add, CompareAndClear}
use Rattle.fdb_mutations.specs.declared.mutation.Mutation.TheVariants.{Stamped}
use Rattle.fdb_mutations.specs.Examples.{one, span}
use Rattle.fdb_mutations.specs.PairExamples.{three}
use Rattle.fdb_client.specs.declared.left.Left.TheVariants.{Value, Unreadable, Changes}
use Rattle.fdb_client.specs.declared.program.Op.{Op}
use Rattle.fdb_client.specs.declared.program.Op.TheVariants.{Write, AddRead, AddWrite}
use Rattle.fdb_client.specs.KeyExamples.{get as read, peek, single}
use Rattle.fdb_client.specs.OwnWrites.{left_after, value_over, is_value, is_unreadable}
use Rattle.fdb_client.specs.Programs.{copy, decided, mutations_of, write_ranges}
use Rattle.fdb_client.specs.ReadExamples.{reading, read_by, clears, adds}
use Rattle.fdb_client.specs.Unreadable.{counted, get_fault, is_readable, range_read_fault, scan_fault, stamped_op}
use Rattle.fdb_client.specs.Unreadable.{stamped_keys, unless_out, unreadable, unreadable_in}

-- an operand that has room for a stamp, and a stamp
abbrev pub operand : List ℕ
operand = replicate 10 120

abbrev pub stamp : List ℕ
stamp = replicate 10 7

-- the stamped mutation of a key of one byte, and what clears key 2 where it has the bare operand
abbrev pub stamps : ℕ → Op
stamps key = Write (Stamped (one key) operand 0)

abbrev pub compares : Op
compares = Write (CompareAndClear (one 2) operand)

abbrev pub sets : ℕ → Op
sets key = Write (Set (one key) (one 9))

-- key 2 is unreadable after a program
abbrev pub is_hidden : List Op → Bool
is_hidden ops = unreadable ops (one 2)

-- A Stamped makes its own key unreadable, whatever came before, and no other. Atomic operations leave that, and so do
-- reads, added ranges, and what names other keys. A set, a clear or a cleared range that names the key ends it.
abbrev pub WorkedUnreadable : Type 0
WorkedUnreadable =
    (is_hidden [] ≡ false)
    × (is_hidden (stamps 2 ∷ []) ≡ true)
    × (is_hidden (stamps 3 ∷ []) ≡ false)
    × (is_hidden (sets 2 ∷ []) ≡ false)
    × (is_hidden (adds ∷ []) ≡ false)
    × (is_hidden (adds ∷ stamps 2 ∷ []) ≡ true)
    × (is_hidden (compares ∷ stamps 2 ∷ []) ≡ true)
    × (is_hidden (sets 2 ∷ stamps 2 ∷ []) ≡ false)
    × (is_hidden (sets 3 ∷ stamps 2 ∷ []) ≡ true)
    × (is_hidden (Write (Clear (one 2)) ∷ stamps 2 ∷ []) ≡ false)
    × (is_hidden (Write (Clear (one 3)) ∷ stamps 2 ∷ []) ≡ true)
    × (is_hidden (clears ∷ stamps 2 ∷ []) ≡ false)
    × (is_hidden (Write (ClearRange (span 3 9)) ∷ stamps 2 ∷ []) ≡ true)
    × (is_hidden (Write (ClearRange (span 2 2)) ∷ stamps 2 ∷ []) ≡ true)
    × (is_hidden (stamps 2 ∷ sets 2 ∷ []) ≡ true)
    × (is_hidden (stamps 2 ∷ clears ∷ stamps 2 ∷ []) ≡ true)
    × (is_hidden (sets 2 ∷ stamps 2 ∷ stamps 2 ∷ []) ≡ false)
    × (is_hidden (adds ∷ sets 2 ∷ stamps 2 ∷ []) ≡ false)
    × (is_hidden (read 1 ∷ peek 1 ∷ reading (span 3 9) 0 false ∷ stamps 2 ∷ []) ≡ true)
    × (is_hidden (AddRead (span 1 9) ∷ AddWrite (span 1 9) ∷ stamps 2 ∷ []) ≡ true)
    × (stamped_keys (sets 2 ∷ stamps 2 ∷ adds ∷ stamps 4 ∷ read 1 ∷ []) ≡ one 2 ∷ one 4 ∷ [])
    × (unreadable_in (stamps 2 ∷ []) (span 1 9) ≡ true)
    × (unreadable_in (stamps 2 ∷ []) (span 2 3) ≡ true)
    × (unreadable_in (stamps 2 ∷ []) (span 1 2) ≡ false)
    × (unreadable_in (stamps 2 ∷ []) (span 3 9) ≡ false)
    × (unreadable_in (stamps 2 ∷ []) (span 2 2) ≡ false)
    × (unreadable_in (sets 2 ∷ stamps 2 ∷ []) (span 1 9) ≡ false)
    × (unreadable_in (sets 2 ∷ stamps 2 ∷ stamps 4 ∷ []) (span 1 9) ≡ true)
    × (unreadable_in (adds ∷ []) (span 1 9) ≡ false)

-- What is left where one more mutation comes. A Stamped leaves its bare operand, unreadable; what isn't blind leaves it
-- so; a set or a clear leaves a value. An unreadable key is decided.
abbrev pub WorkedLeft : Type 0
WorkedLeft =
    (left_after (Value (Some (one 5))) (Stamped (one 2) operand 0) ≡ Unreadable (Some operand))
    × (left_after (Value (Some (one 5))) (Set (one 2) (one 9)) ≡ Value (Some (one 9)))
    × (left_after (Value (Some (one 5))) (Add (one 2) (one 1)) ≡ Value (Some (one 6)))
    × (left_after (Unreadable (Some (one 5))) (Stamped (one 2) operand 0) ≡ Unreadable (Some operand))
    × (left_after (Unreadable (Some (one 5))) (Add (one 2) (one 1)) ≡ Unreadable (Some (one 6)))
    × (left_after (Unreadable (Some operand)) (CompareAndClear (one 2) operand) ≡ Unreadable None)
    × (left_after (Unreadable (Some operand)) (Set (one 2) (one 9)) ≡ Value (Some (one 9)))
    × (left_after (Unreadable (Some operand)) (Clear (one 2)) ≡ Value None)
    × (left_after (Unreadable (Some operand)) (ClearRange (span 2 3)) ≡ Value None)
    × (left_after (Changes (Add (one 2) (one 1) ∷ [])) (Stamped (one 2) operand 0) ≡ Unreadable (Some operand))
    × (left_after (Changes (Add (one 2) (one 1) ∷ [])) (Set (one 2) (one 9)) ≡ Value (Some (one 9)))
    × (left_after (Changes []) (Add (one 2) (one 1)) ≡ Changes (Add (one 2) (one 1) ∷ []))
    × (value_over (Unreadable (Some operand)) (Some (one 6)) ≡ Some operand)
    × (value_over (Unreadable None) (Some (one 6)) ≡ None)
    × (is_value (Unreadable None) ≡ true)
    × (is_unreadable (Unreadable None) ≡ true)
    × (is_unreadable (Value (Some operand)) ≡ false)
    × (is_unreadable (Changes (Add (one 2) (one 1) ∷ [])) ≡ false)
    × (decided (stamps 2 ∷ []) (one 2) ≡ true)

-- A get of an unreadable key is refused, whatever a shard would say; of a decided one that can be read it isn't; and of
-- any other as a shard says. The fault of a call that is known late stands unless memory ran out. A Stamped writes its
-- key, though nobody reads it; and a stamp makes a set of it alone.
abbrev pub WorkedKeyFaults : Type 0
WorkedKeyFaults =
    (get_fault (stamps 2 ∷ []) (one 2) None ≡ Some AccessedUnreadable)
    × (get_fault (stamps 2 ∷ []) (one 2) (Some TransactionTooOld) ≡ Some AccessedUnreadable)
    × (get_fault (adds ∷ stamps 2 ∷ []) (one 2) None ≡ Some AccessedUnreadable)
    × (get_fault (stamps 2 ∷ []) (one 3) (Some TransactionTooOld) ≡ Some TransactionTooOld)
    × (get_fault (stamps 2 ∷ []) (one 3) None ≡ None)
    × (get_fault (sets 2 ∷ stamps 2 ∷ []) (one 2) (Some TransactionTooOld) ≡ None)
    × (get_fault (adds ∷ []) (one 2) (Some TransactionTooOld) ≡ Some TransactionTooOld)
    × ((given : ⊤) → unless_out (Ok given) (Some AccessedUnreadable) ≡ Some AccessedUnreadable)
    × ((given : ⊤) → unless_out (Ok given) None ≡ None)
    × (unless_out {T = ⊤} (Err NoMemory) (Some AccessedUnreadable) ≡ None)
    × (unless_out {T = ⊤} (Err AccessedUnreadable) (Some AccessedUnreadable) ≡ Some AccessedUnreadable)
    × (unless_out {T = ⊤} (Err TransactionTooOld) (Some AccessedUnreadable) ≡ Some AccessedUnreadable)
    × (write_ranges (stamps 2 ∷ []) ≡ single 2 ∷ [])
    × (read_by (stamps 2 ∷ []) ≡ [])
    × (mutations_of (sets 3 ∷ stamps 2 ∷ []) ≡ Stamped (one 2) operand 0 ∷ Set (one 3) (one 9) ∷ [])
    × (stamped_op stamp (stamps 2) ≡ Write (Set (one 2) stamp))
    × (stamped_op stamp adds ≡ adds)
    × (stamped_op stamp (read 2) ≡ read 2)
    × (is_readable three (read 2 ∷ stamps 2 ∷ []) ≡ false)
    × (is_readable three (peek 2 ∷ stamps 2 ∷ []) ≡ false)
    × (is_readable three (read 3 ∷ stamps 2 ∷ []) ≡ true)
    × (is_readable three (stamps 2 ∷ read 2 ∷ []) ≡ true)
    × (is_readable three (sets 2 ∷ read 2 ∷ stamps 2 ∷ []) ≡ false)
    × (is_readable three (read 2 ∷ sets 2 ∷ stamps 2 ∷ []) ≡ true)

-- why a read of a range is refused on the map of three pairs
abbrev pub refused : List Op → Range → ℕ → Bool → Option Refusal
refused ops range limit is_reverse = scan_fault (copy three ops) ops range limit is_reverse

-- The unreadable key is the first pair, the last one or behind the limit, in both orders, or outside the range. It
-- counts as a pair where the bare operand was cleared by comparing, too, and doesn't once it is set. What a shard
-- refuses comes first. The map in which unreadable keys are counted has a pair at each of them, and else what the copy
-- has.
abbrev pub WorkedRangeFaults : Type 0
WorkedRangeFaults =
    (refused (stamps 2 ∷ []) (span 1 9) 0 false ≡ Some AccessedUnreadable)
    × (refused (stamps 2 ∷ []) (span 1 9) 1 false ≡ None)
    × (refused (stamps 2 ∷ []) (span 1 9) 2 false ≡ Some AccessedUnreadable)
    × (refused (stamps 2 ∷ []) (span 2 9) 1 false ≡ Some AccessedUnreadable)
    × (refused (stamps 2 ∷ []) (span 1 9) 0 true ≡ Some AccessedUnreadable)
    × (refused (stamps 2 ∷ []) (span 1 9) 1 true ≡ None)
    × (refused (stamps 2 ∷ []) (span 1 9) 2 true ≡ Some AccessedUnreadable)
    × (refused (stamps 2 ∷ []) (span 1 3) 1 true ≡ Some AccessedUnreadable)
    × (refused (stamps 2 ∷ []) (span 3 9) 0 false ≡ None)
    × (refused (stamps 2 ∷ []) (span 1 2) 0 false ≡ None)
    × (refused (compares ∷ stamps 2 ∷ []) (span 1 9) 1 false ≡ None)
    × (refused (compares ∷ stamps 2 ∷ []) (span 1 9) 2 false ≡ Some AccessedUnreadable)
    × (refused (compares ∷ stamps 2 ∷ []) (span 2 9) 1 false ≡ Some AccessedUnreadable)
    × (refused (compares ∷ stamps 2 ∷ []) (span 1 9) 1 true ≡ None)
    × (refused (compares ∷ stamps 2 ∷ []) (span 1 9) 2 true ≡ Some AccessedUnreadable)
    × (refused (sets 2 ∷ stamps 2 ∷ []) (span 1 9) 0 false ≡ None)
    × (range_read_fault three (stamps 2 ∷ []) (span 1 9) 0 false (Some TransactionTooOld) ≡ Some TransactionTooOld)
    × (range_read_fault three (stamps 2 ∷ []) (span 1 9) 0 false None ≡ Some AccessedUnreadable)
    × (range_read_fault three (stamps 2 ∷ []) (span 1 9) 1 false None ≡ None)
    × (range_read_fault three (stamps 2 ∷ []) (span 1 9) 1 false (Some TransactionTooOld) ≡ Some TransactionTooOld)
    × (is_readable three (reading (span 1 9) 2 false ∷ stamps 2 ∷ []) ≡ false)
    × (is_readable three (reading (span 1 9) 1 false ∷ stamps 2 ∷ []) ≡ true)
    × (get (counted three (stamps 2 ∷ [])) (one 2) ≡ Some [])
    × (get (counted three (compares ∷ stamps 2 ∷ [])) (one 2) ≡ Some [])
    × (get (counted three (sets 2 ∷ stamps 2 ∷ [])) (one 2) ≡ Some (one 9))
    × (get (counted three (stamps 2 ∷ [])) (one 3) ≡ Some (one 7))
    × (get (counted three (stamps 2 ∷ [])) (one 4) ≡ None)
