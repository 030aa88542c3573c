-- Refusals of a shard, computed.
use Rattle.std.specs.Prelude.{◌≡◌, ℕ, Bool, true, false, List, [], ◌∷◌, replicate, Some, None}
use Rattle.fdb_keys.specs.declared.refusal.Refusal.TheVariants.{NotYet, Stale, Failed, Unknown, KeyOutsideLegalRange}
use Rattle.fdb_keys.specs.declared.refusal.Refusal.TheVariants.{TransactionTooOld, FutureVersion, BadOperand}
use Rattle.fdb_keys.specs.Ranges.{Range}
use Rattle.fdb_mutations.specs.declared.mutation.Mutation.{Mutation}
use Rattle.fdb_mutations.specs.declared.mutation.Mutation.TheVariants.{Set, Stamped}
use Rattle.fdb_txn.specs.declared.tag_msg.TagMsg.{TagMsg}
use Rattle.fdb_txn.specs.rules.Messages.{at_place}
use Rattle.fdb_log.specs.declared.peek.Peek.{Peek}
use Rattle.fdb_storage.specs.StampedMessages.{has_stamped, stamped_fault}
use Rattle.fdb_storage.specs.Shards.{Shard, key_fault, range_fault, part_fault, apply_fault, forget_fault}

-- the range from one key of one byte to another
abbrev pub span : ℕ → ℕ → Range
span begin end = record { begin = begin ∷ []; end = end ∷ [] }

-- shard 3 of the keys from 10 to 20, which serves the versions from 50 through 100
abbrev pub shard : Bool → Shard
shard is_failed =
    record { tag = 3; range = span 10 20; version = 100; floor = 50; is_failed = is_failed; keys = [] }

-- messages for a tag after the version
abbrev pub peek_after : ℕ → ℕ → Peek
peek_after tag after = record { tag = tag; after = after; through = 300; messages = [] }

-- a message with these mutations
abbrev pub message_of : List Mutation → TagMsg
message_of mutations = record { version = 300; prev = 100; body = at_place 0 mutations }

-- a mutation that waits for a stamp, and one that doesn't
abbrev pub waits : Mutation
waits = Stamped (12 ∷ []) (replicate 10 0) 0

abbrev pub sets : Mutation
sets = Set (12 ∷ []) (replicate 10 0)

-- messages for a tag after the version, of which the last one's last mutation waits for a stamp
abbrev pub waiting_after : ℕ → ℕ → Peek
waiting_after tag after =
    record {
      tag = tag;
      after = after;
      through = 300;
      messages = message_of (sets ∷ []) ∷ message_of (sets ∷ waits ∷ []) ∷ [];
    }

-- That memory ran out comes first, then a key or a range outside the shard, then the version.
abbrev pub WorkedReads : Type 0
WorkedReads =
    (key_fault (shard true) (9 ∷ []) 40 ≡ Some Failed)
    × (key_fault (shard false) (9 ∷ []) 40 ≡ Some KeyOutsideLegalRange)
    × (key_fault (shard false) (20 ∷ []) 50 ≡ Some KeyOutsideLegalRange)
    × (key_fault (shard false) (10 ∷ []) 49 ≡ Some TransactionTooOld)
    × (key_fault (shard false) (10 ∷ []) 101 ≡ Some FutureVersion)
    × (key_fault (shard false) (10 ∷ []) 50 ≡ None)
    × (key_fault (shard false) (10 ∷ []) 100 ≡ None)
    × (range_fault (shard true) (span 9 12) 40 ≡ Some Failed)
    × (range_fault (shard false) (span 9 12) 40 ≡ Some KeyOutsideLegalRange)
    × (range_fault (shard false) (span 12 21) 50 ≡ Some KeyOutsideLegalRange)
    × (range_fault (shard false) (span 10 20) 49 ≡ Some TransactionTooOld)
    × (range_fault (shard false) (span 10 20) 101 ≡ Some FutureVersion)
    × (range_fault (shard false) (span 10 20) 75 ≡ None)

-- A range of which the shard has no part, or that has no point, isn't asked of it at any version.
abbrev pub WorkedParts : Type 0
WorkedParts =
    (part_fault (shard true) (span 1 5) 40 ≡ Some Failed)
    × (part_fault (shard false) (span 1 10) 40 ≡ None)
    × (part_fault (shard false) (span 20 30) 40 ≡ None)
    × (part_fault (shard false) (span 12 12) 40 ≡ None)
    × (part_fault (shard false) (span 12 15) 50 ≡ None)
    × (part_fault (shard false) (span 1 30) 100 ≡ None)
    × (part_fault (shard false) (span 1 11) 40 ≡ Some TransactionTooOld)
    × (part_fault (shard false) (span 19 30) 101 ≡ Some FutureVersion)

-- One mutation of one message is enough, wherever it stands.
abbrev pub WorkedStamped : Type 0
WorkedStamped =
    (has_stamped (message_of []) ≡ false)
    × (has_stamped (message_of (sets ∷ [])) ≡ false)
    × (has_stamped (message_of (sets ∷ sets ∷ waits ∷ [])) ≡ true)
    × (has_stamped (message_of (waits ∷ sets ∷ [])) ≡ true)
    × (stamped_fault [] ≡ None)
    × (stamped_fault (message_of [] ∷ message_of (sets ∷ []) ∷ []) ≡ None)
    × (stamped_fault (message_of (waits ∷ []) ∷ message_of (sets ∷ []) ∷ []) ≡ Some BadOperand)
    × (stamped_fault (message_of (sets ∷ []) ∷ message_of (sets ∷ waits ∷ []) ∷ []) ≡ Some BadOperand)

-- Messages for another tag come first, then that memory ran out, then that a mutation waits for a stamp, then whether
-- they come late or early.
abbrev pub WorkedApplies : Type 0
WorkedApplies =
    (apply_fault (shard true) (peek_after 2 50) ≡ Some Unknown)
    × (apply_fault (shard true) (peek_after 3 50) ≡ Some Failed)
    × (apply_fault (shard false) (peek_after 2 100) ≡ Some Unknown)
    × (apply_fault (shard false) (peek_after 3 50) ≡ Some Stale)
    × (apply_fault (shard false) (peek_after 3 200) ≡ Some (NotYet 200))
    × (apply_fault (shard false) (peek_after 3 100) ≡ None)
    × (apply_fault (shard true) (waiting_after 2 50) ≡ Some Unknown)
    × (apply_fault (shard true) (waiting_after 3 50) ≡ Some Failed)
    × (apply_fault (shard false) (waiting_after 3 50) ≡ Some BadOperand)
    × (apply_fault (shard false) (waiting_after 3 200) ≡ Some BadOperand)
    × (apply_fault (shard false) (waiting_after 3 100) ≡ Some BadOperand)

-- A floor below the present one is no fault.
abbrev pub WorkedFloors : Type 0
WorkedFloors =
    (forget_fault (shard true) 101 ≡ Some Failed)
    × (forget_fault (shard false) 101 ≡ Some FutureVersion)
    × (forget_fault (shard false) 100 ≡ None)
    × (forget_fault (shard false) 10 ≡ None)
