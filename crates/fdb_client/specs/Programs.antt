-- Programs, how they are executed on a map, and what they read and write.
use Rattle.std.specs.Prelude.{Bool, false, not, ◌==◌, ◌&&◌, ◌||◌, List, [], ◌∷◌, ◌++◌, length, fold, if◌then◌else◌}
use Rattle.std.specs.FinMap.{get}
use Rattle.fdb_keys.specs.Points.{Point, point_eq}
use Rattle.fdb_keys.specs.Insertion.{with_range, with_ranges}
use Rattle.fdb_keys.specs.Ranges.{Range, single_range, in_range}
use Rattle.fdb_keys.specs.Removal.{outside}
use Rattle.fdb_mutations.specs.declared.mutation.Mutation.{Mutation}
use Rattle.fdb_mutations.specs.Maps.{Map}
use Rattle.fdb_mutations.specs.Mutations.{effect, names, named_range, is_blind}
use Rattle.fdb_mutations.specs.Pairs.{scanned}
use Rattle.fdb_mutations.specs.PairLaws.{given_of, scanned_of}
use Rattle.fdb_txn.specs.book.Transactions.{Transaction}
use Rattle.fdb_client.specs.declared.program.Op.{Op}
use Rattle.fdb_client.specs.declared.program.Op.TheVariants.{Get, Write, AddRead, AddWrite}
use Rattle.fdb_client.specs.declared.program.Op.TheVariants as operation
use Rattle.fdb_client.specs.declared.program.Reply.{Reply}
use Rattle.fdb_client.specs.declared.program.Reply.TheVariants.{Value, Pairs, Done}
use Rattle.fdb_client.specs.declared.program.Transcript.{Transcript}

-- a transcript's operations as a program, which has the newest first
abbrev pub program : List (Op × Reply) → List Op
program ops = fold (λ (earlier : List Op) (done : Op × Reply). done.0 ∷ earlier) [] ops

-- a transcript's replies in the order of its program
abbrev pub replies_of : List (Op × Reply) → List Reply
replies_of ops = fold (λ (earlier : List Reply) (done : Op × Reply). done.1 ∷ earlier) [] ops

-- the copy of the map after one more operation
abbrev pub copy_after : Map → Op → Map
copy_after map (Get key snapshot) = map
copy_after map (operation.Range range limit is_reverse snapshot) = map
copy_after map (Write mutation) = effect map mutation
copy_after map (AddRead range) = map
copy_after map (AddWrite range) = map

-- the copy of the map after the program
abbrev pub copy : Map → List Op → Map
copy map [] = map
copy map (op ∷ earlier) = copy_after (copy map earlier) op

-- what an operation replies from a copy
abbrev pub reply_on : Map → Op → Reply
reply_on map (Get key snapshot) = Value (get map key)
reply_on map (operation.Range range limit is_reverse snapshot) = Pairs (given_of map range limit is_reverse)
reply_on map (Write mutation) = Done
reply_on map (AddRead range) = Done
reply_on map (AddWrite range) = Done

-- the operation reads a key or a range, and isn't a snapshot read
abbrev pub is_ordinary_read : Op → Bool
is_ordinary_read (Get key snapshot) = not snapshot
is_ordinary_read (operation.Range range limit is_reverse snapshot) = not snapshot
is_ordinary_read (Write mutation) = false
is_ordinary_read (AddRead range) = false
is_ordinary_read (AddWrite range) = false

-- the replies of the program on a map, the newest first
abbrev pub exec : Map → List Op → List Reply
exec map [] = []
exec map (op ∷ earlier) = reply_on (copy map earlier) op ∷ exec map earlier

-- the operation decides the point: what stands there afterwards doesn't depend on what stood there
abbrev pub decides : Op → Point → Bool
decides (Get key snapshot) x = false
decides (operation.Range range limit is_reverse snapshot) x = false
decides (Write mutation) x = is_blind mutation && names mutation x
decides (AddRead range) x = false
decides (AddWrite range) x = false

-- some operation of the program decides the point
abbrev pub decided : List Op → Point → Bool
decided [] x = false
decided (op ∷ earlier) x = decides op x || decided earlier x

-- The points that an operation reads after the earlier ones: those that these don't decide, of the key or of what a
-- read of a range scanned. A range that is added is read whole.
abbrev pub reads_on : Map → List Op → Op → Point → Bool
reads_on map earlier (Get key snapshot) x = not snapshot && point_eq x key && not (decided earlier x)
reads_on map earlier (operation.Range range limit is_reverse snapshot) x =
    not snapshot && in_range (scanned_of map range limit is_reverse) x && not (decided earlier x)
reads_on map earlier (Write mutation) x = false
reads_on map earlier (AddRead range) x = in_range range x
reads_on map earlier (AddWrite range) x = false

-- the points that a program reads on a map
abbrev pub read_set : Map → List Op → Point → Bool
read_set map [] x = false
read_set map (op ∷ earlier) x = reads_on (copy map earlier) earlier op x || read_set map earlier x

-- the points that an operation writes
abbrev pub writes_on : Op → Point → Bool
writes_on (Get key snapshot) x = false
writes_on (operation.Range range limit is_reverse snapshot) x = false
writes_on (Write mutation) x = names mutation x
writes_on (AddRead range) x = false
writes_on (AddWrite range) x = in_range range x

-- the points that a program writes
abbrev pub write_set : List Op → Point → Bool
write_set [] x = false
write_set (op ∷ earlier) x = writes_on op x || write_set earlier x

-- the mutations with that of an operation, if it is a write
abbrev pub add_mutation : Op → List Mutation → List Mutation
add_mutation (Get key snapshot) mutations = mutations
add_mutation (operation.Range range limit is_reverse snapshot) mutations = mutations
add_mutation (Write mutation) mutations = mutations ++ mutation ∷ []
add_mutation (AddRead range) mutations = mutations
add_mutation (AddWrite range) mutations = mutations

-- the mutations of a program, the first one first
abbrev pub mutations_of : List Op → List Mutation
mutations_of [] = []
mutations_of (op ∷ earlier) = add_mutation op (mutations_of earlier)

-- the ranges with what an operation decides
abbrev pub add_decided : Op → List Range → List Range
add_decided (Get key snapshot) ranges = ranges
add_decided (operation.Range range limit is_reverse snapshot) ranges = ranges
add_decided (Write mutation) ranges = if is_blind mutation then with_range (named_range mutation) ranges else ranges
add_decided (AddRead range) ranges = ranges
add_decided (AddWrite range) ranges = ranges

-- what a program decides, as ranges
abbrev pub decided_ranges : List Op → List Range
decided_ranges [] = []
decided_ranges (op ∷ earlier) = add_decided op (decided_ranges earlier)

-- the ranges with what a read of a range reads after the earlier operations, by the pairs that it was given
abbrev pub add_scanned : List Op → Range → List Range → List Range
add_scanned earlier scanned ranges = with_ranges (outside (decided_ranges earlier) scanned) ranges

-- the ranges with what an operation that got this reply reads after the earlier ones
abbrev pub add_reads : List Op → Op → Reply → List Range → List Range
add_reads earlier (Get key snapshot) reply ranges =
    if not snapshot && not (decided earlier key) then with_range (single_range key) ranges else ranges
add_reads earlier (operation.Range range limit is_reverse snapshot) (Pairs pairs) ranges =
    if snapshot then ranges else add_scanned earlier (scanned range limit is_reverse pairs) ranges
add_reads earlier (operation.Range range limit is_reverse snapshot) (Value value) ranges = ranges
add_reads earlier (operation.Range range limit is_reverse snapshot) Done ranges = ranges
add_reads earlier (Write mutation) reply ranges = ranges
add_reads earlier (AddRead range) reply ranges = with_range range ranges
add_reads earlier (AddWrite range) reply ranges = ranges

-- the read set as ranges, by the operations and their replies
abbrev pub read_ranges : List Op → List Reply → List Range
read_ranges [] replies = []
read_ranges (op ∷ earlier) [] = []
read_ranges (op ∷ earlier) (reply ∷ replies) = add_reads earlier op reply (read_ranges earlier replies)

-- the ranges with what an operation writes
abbrev pub add_writes : Op → List Range → List Range
add_writes (Get key snapshot) ranges = ranges
add_writes (operation.Range range limit is_reverse snapshot) ranges = ranges
add_writes (Write mutation) ranges = with_range (named_range mutation) ranges
add_writes (AddRead range) ranges = ranges
add_writes (AddWrite range) ranges = with_range range ranges

-- the write set as ranges
abbrev pub write_ranges : List Op → List Range
write_ranges [] = []
write_ranges (op ∷ earlier) = add_writes op (write_ranges earlier)

-- what is submitted of a transcript
abbrev pub commit_request_of : Transcript → Transaction
commit_request_of transcript =
    let ops = program transcript.ops in
    record {
      id = transcript.id;
      read = transcript.read_version;
      reads = read_ranges ops (replies_of transcript.ops);
      writes = write_ranges ops;
      mutations = mutations_of ops;
    }

-- a transaction writes nothing: it has no mutation, and its write set is empty
abbrev pub is_read_only : Transcript → Bool
is_read_only transcript =
    (length (mutations_of (program transcript.ops)) == 0) && (length (write_ranges (program transcript.ops)) == 0)
