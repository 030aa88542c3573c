-- What logs send a shard of each entry, and what the messages leave at a point.
use Rattle.std.specs.Prelude.{◌≡◌, ◌≤◌, ◌↔◌, ℕ, suc, Bool, true, false, nat_le, List, [], ◌∷◌, ◌++◌, fold, filter, map}
use Rattle.std.specs.Prelude.{Option}
use Rattle.std.specs.Prelude.{None, if◌then◌else◌}
use Rattle.std.specs.List.{AllByRecursion}
use Rattle.std.specs.FinMap.{get}
use Rattle.fdb_keys.specs.Points.{Point}
use Rattle.fdb_keys.specs.Ranges.{Range, in_range, ranges_meet}
use Rattle.fdb_mutations.specs.declared.mutation.Mutation.{Mutation}
use Rattle.fdb_mutations.specs.Mutations.{names, named_range, value_after}
use Rattle.fdb_mutations.specs.Stamping.{is_stamped}
use Rattle.fdb_txn.specs.declared.entry.Entry.{Entry}
use Rattle.fdb_txn.specs.declared.tag_msg.TagMsg.{TagMsg}
use Rattle.fdb_txn.specs.book.Transactions.{Transaction}
use Rattle.fdb_txn.specs.book.Book.{Head, Place, Seen, nothing, head_of, placed, add_entry, seen_of, last_version}
use Rattle.fdb_txn.specs.rules.Admission.{committed}
use Rattle.fdb_txn.specs.book.History.{AreEntries}
use Rattle.fdb_txn.specs.rules.SerialMap.{serial_map_at}
use Rattle.fdb_txn.specs.rules.Stamped.{stamped_at}

-- the mutation names a point of the range
abbrev pub meets_range : Range → Mutation → Bool
meets_range range mutation = ranges_meet range (named_range mutation)

-- mutations, each with the number of its transaction's place
abbrev pub Body : Type 0
Body = List (ℕ × Mutation)

-- the mutations alone
abbrev pub mutations_in : Body → List Mutation
mutations_in body = map (λ (sent : ℕ × Mutation). sent.1) body

-- mutations at a place
abbrev pub at_place : ℕ → List Mutation → Body
at_place p mutations = map (λ (mutation : Mutation). (p, mutation)) mutations

-- the stamped mutations of those transactions of a batch, from place p on, that are committed: by place, and then in
-- the transaction's order
abbrev pub committed_from : List Point → Head → ℕ → List Transaction → List Place → Body
committed_from splits head p [] earlier = []
committed_from splits head p (t ∷ ts) earlier =
    (if committed splits earlier (placed head p t) then at_place p (stamped_at (placed head p t)) else [])
    ++ committed_from splits head (suc p) ts (placed head p t ∷ earlier)

-- the mutations of an entry's committed transactions
abbrev pub committed_in : List Point → Seen → Entry → Body
committed_in splits before entry = committed_from splits (head_of before entry) 0 entry.batch before.places

-- the message of an entry for the shard that holds the range: the mutations of the entry's committed
-- transactions that meet the range, in order
abbrev pub message_for : List Point → Range → Seen → Entry → TagMsg
message_for splits range before entry =
    record {
      version = entry.version;
      prev = entry.prev;
      body = filter (λ (sent : ℕ × Mutation). meets_range range sent.1) (committed_in splits before entry);
    }

-- the messages of entries after what was seen before them, the first one first
abbrev pub messages_after : List Point → Range → Seen → List Entry → List TagMsg
messages_after splits range before [] = []
messages_after splits range before (entry ∷ book) =
    message_for splits range before entry ∷ messages_after splits range (add_entry before entry) book

-- the messages of a book
abbrev pub messages_for : List Point → Range → List Entry → List TagMsg
messages_for splits range book = messages_after splits range nothing book

-- what stands at a point after a message, if it is of version at most v
abbrev pub value_with : ℕ → Point → Option (List ℕ) → TagMsg → Option (List ℕ)
value_with v x value message =
    if nat_le message.version v then fold (value_after x) value (mutations_in message.body) else value

-- what stands at a point after the messages of version at most v, from nothing
abbrev pub value_in : ℕ → Point → List TagMsg → Option (List ℕ)
value_in v x messages = fold (value_with v x) None messages

-- a mutation meets a range exactly where it names some point of it
abbrev pub MeetsAtSomePoint : Type 0
MeetsAtSomePoint =
    (range : Range) (mutation : Mutation)
    → (meets_range range mutation ≡ true) ↔ ((x : Point) × (in_range range x ≡ true) × (names mutation x ≡ true))

-- the message has nothing for others: each of its mutations names some point of the range
abbrev pub IsForRange : Range → TagMsg → Type 0
IsForRange range message = AllByRecursion
    (λ (mutation : Mutation). (x : Point) × (in_range range x ≡ true) × (names mutation x ≡ true))
    (mutations_in message.body)

-- a shard's messages have nothing for other shards
abbrev pub MessagesAreForTheRange : Type 0
MessagesAreForTheRange =
    (splits : List Point) (range : Range) (book : List Entry)
    → AllByRecursion (IsForRange range) (messages_for splits range book)

-- no mutation of the message waits for a stamp
abbrev pub HasNoStamped : TagMsg → Type 0
HasNoStamped message =
    AllByRecursion (λ (mutation : Mutation). is_stamped mutation ≡ false) (mutations_in message.body)

-- whatever was seen before, a message has stamped mutations alone
abbrev pub MessagesAreStamped : Type 0
MessagesAreStamped =
    (splits : List Point) (range : Range) (before : Seen) (book : List Entry)
    → AllByRecursion HasNoStamped (messages_after splits range before book)

-- A shard holds the run: at each point of its range and each version, its messages leave what stands there on
-- the serial map at that version.
abbrev pub ShardsHoldTheRun : Type 0
ShardsHoldTheRun =
    (resolvers : ℕ) (splits : List Point) (range : Range) (book : List Entry) → AreEntries resolvers 0 book
    → (v : ℕ) (x : Point) → in_range range x ≡ true
    → value_in v x (messages_for splits range book) ≡ get (serial_map_at splits v (seen_of book).places) x

-- the messages of a book are those of its first entries and then those of the others, after what was seen of the first
abbrev pub MessagesGoOn : Type 0
MessagesGoOn =
    (splits : List Point) (range : Range) (before more : List Entry)
    → messages_for splits range (before ++ more)
    ≡ messages_for splits range before ++ messages_after splits range (seen_of before) more

-- And so a shard goes on: what stands on the serial map at the version of the last of some entries, changed by the
-- messages of the entries after these, is what stands there on the serial map of all of them at any later version.
abbrev pub ShardsGoOn : Type 0
ShardsGoOn =
    (resolvers : ℕ) (splits : List Point) (range : Range) (before more : List Entry)
    → AreEntries resolvers 0 (before ++ more)
    → (v : ℕ) (x : Point) → in_range range x ≡ true → last_version before ≤ v
    → fold (value_with v x) (get (serial_map_at splits (last_version before) (seen_of before).places) x)
    (messages_after splits range (seen_of before) more)
    ≡ get (serial_map_at splits v (seen_of (before ++ more)).places) x
