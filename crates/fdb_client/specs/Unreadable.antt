-- The keys that a transaction can't read, since what it wrote there is known only once it commits.
use Rattle.std.specs.Prelude.{◌≡◌, ℕ, Bool, true, false, not, ◌&&◌, List, [], ◌∷◌, map, filter, Option, Some, None}
use Rattle.std.specs.Prelude.{Result, Ok, Err, if◌then◌else◌}
use Rattle.std.specs.FinMap.{insert}
use Rattle.std.specs.List.{list_any}
use Rattle.std.specs.Option.{option_or}
use Rattle.fdb_keys.specs.declared.refusal.Refusal.{Refusal}
use Rattle.fdb_keys.specs.declared.refusal.Refusal.TheVariants.{NoMemory, AccessedUnreadable}
use Rattle.fdb_keys.specs.Points.{Point}
use Rattle.fdb_keys.specs.Ranges.{Range, in_range}
use Rattle.fdb_mutations.specs.declared.mutation.Mutation.{Mutation}
use Rattle.fdb_mutations.specs.declared.mutation.Mutation.TheVariants.{Stamped}
use Rattle.fdb_mutations.specs.Maps.{Map}
use Rattle.fdb_mutations.specs.Mutations.{names, is_blind}
use Rattle.fdb_mutations.specs.PairLaws.{given_of, scanned_of}
use Rattle.fdb_mutations.specs.Stamping.{is_stamped, stamped}
use Rattle.fdb_client.specs.declared.program.Op.{Op}
use Rattle.fdb_client.specs.declared.program.Op.TheVariants.{Get, Write, AddRead, AddWrite}
use Rattle.fdb_client.specs.declared.program.Op.TheVariants as operation
use Rattle.fdb_client.specs.Programs.{copy, decided, exec}

-- Whether a point is unreadable after a mutation: a Stamped makes its key so, and a set or clear that names it ends
-- that.
abbrev pub unreadable_by : Mutation → Point → Bool → Bool
unreadable_by mutation x before = if is_blind mutation && names mutation x then is_stamped mutation else before

-- whether it is so after an operation
abbrev pub unreadable_after : Op → Point → Bool → Bool
unreadable_after (Get key snapshot) x before = before
unreadable_after (operation.Range range limit is_reverse snapshot) x before = before
unreadable_after (Write mutation) x before = unreadable_by mutation x before
unreadable_after (AddRead range) x before = before
unreadable_after (AddWrite range) x before = before

-- a point is unreadable after a program
abbrev pub unreadable : List Op → Point → Bool
unreadable [] x = false
unreadable (op ∷ earlier) x = unreadable_after op x (unreadable earlier x)

-- the keys with that of an operation, if it is a Stamped
abbrev pub add_stamped : Op → List Point → List Point
add_stamped (Write (Stamped key operand offset)) keys = key ∷ keys
add_stamped op keys = keys

-- the keys that the program's Stamped mutations name
abbrev pub stamped_keys : List Op → List Point
stamped_keys [] = []
stamped_keys (op ∷ earlier) = add_stamped op (stamped_keys earlier)

-- a key in the range is unreadable after the program
abbrev pub unreadable_in : List Op → Range → Bool
unreadable_in ops range = list_any (λ key. in_range range key && unreadable ops key) (stamped_keys ops)

-- why a get of a key is refused after a program: the key is unreadable, or else, where the program doesn't decide it,
-- as whoever is asked refuses it
abbrev pub get_fault : List Op → Point → Option Refusal → Option Refusal
get_fault ops key asked =
    if unreadable ops key then Some AccessedUnreadable else (if decided ops key then None else asked)

-- why a read of a range is refused on a copy of the map once it scanned the range: what it scanned has an unreadable
-- key
abbrev pub scan_fault : Map → List Op → Range → ℕ → Bool → Option Refusal
scan_fault copied ops range limit is_reverse =
    if unreadable_in ops (scanned_of copied range limit is_reverse) then Some AccessedUnreadable else None

-- why a read of a range on a map is refused after a program: as whoever is asked refuses it, or else since it scanned
-- an unreadable key
abbrev pub range_read_fault : Map → List Op → Range → ℕ → Bool → Option Refusal → Option Refusal
range_read_fault there ops range limit is_reverse asked =
    option_or asked (scan_fault (copy there ops) ops range limit is_reverse)

-- the refusal says that memory ran out
abbrev pub is_out_of_memory : Refusal → Bool
is_out_of_memory NoMemory = true
is_out_of_memory why = false

-- the fault of a call that is known late, unless memory ran out before
abbrev pub unless_out : {T : Type 0} → Result T Refusal → Option Refusal → Option Refusal
unless_out (Ok given) fault = fault
unless_out (Err why) fault = if is_out_of_memory why then None else fault

-- the map in which some keys have a pair, whatever they had
abbrev pub with_pairs_at : Map → List Point → Map
with_pairs_at there [] = there
with_pairs_at there (key ∷ keys) = insert (with_pairs_at there keys) key []

-- the copy of a map after a program, in which each unreadable key has a pair
abbrev pub counted : Map → List Op → Map
counted there ops = with_pairs_at (copy there ops) (filter (unreadable ops) (stamped_keys ops))

-- Unreadable keys count as pairs: a read is refused just where one of the pairs that it would give, if each unreadable
-- key had one, is that of an unreadable key.
abbrev pub UnreadableCountAsPairs : Type 0
UnreadableCountAsPairs =
    (there : Map) (ops : List Op) (range : Range) (limit : ℕ) (is_reverse : Bool)
    → unreadable_in ops (scanned_of (copy there ops) range limit is_reverse)
    ≡ list_any (λ (pair : Point × List ℕ). unreadable ops pair.0) (given_of (counted there ops) range limit is_reverse)

-- the operation with the stamp of a commit
abbrev pub stamped_op : List ℕ → Op → Op
stamped_op stamp (Get key snapshot) = Get key snapshot
stamped_op stamp (operation.Range range limit is_reverse snapshot) = operation.Range range limit is_reverse snapshot
stamped_op stamp (Write mutation) = Write (stamped stamp mutation)
stamped_op stamp (AddRead range) = AddRead range
stamped_op stamp (AddWrite range) = AddWrite range

-- the operation reads no key that is unreadable after the earlier ones
abbrev pub reads_readable : Map → List Op → Op → Bool
reads_readable there earlier (Get key snapshot) = not (unreadable earlier key)
reads_readable there earlier (operation.Range range limit is_reverse snapshot) =
    not (unreadable_in earlier (scanned_of (copy there earlier) range limit is_reverse))
reads_readable there earlier (Write mutation) = true
reads_readable there earlier (AddRead range) = true
reads_readable there earlier (AddWrite range) = true

-- and so do all operations of a program on the map
abbrev pub is_readable : Map → List Op → Bool
is_readable there [] = true
is_readable there (op ∷ earlier) = reads_readable there earlier op && is_readable there earlier

-- What a stamp is never shows in a transaction's own reads: where none of them reads an unreadable key, the replies are
-- the same with the stamp of any commit.
abbrev pub StampsNeverShow : Type 0
StampsNeverShow =
    (there : Map) (stamp : List ℕ) (ops : List Op) → is_readable there ops ≡ true
    → exec there (map (stamped_op stamp) ops) ≡ exec there ops
