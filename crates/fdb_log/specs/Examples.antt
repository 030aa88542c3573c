-- Refusals of a log, and how many mutations it holds, computed.
use Rattle.std.specs.Prelude.{◌≡◌, ℕ, Bool, true, false, List, [], ◌∷◌, Some, None}
use Rattle.fdb_keys.specs.declared.refusal.Refusal.TheVariants.{NotYet, Stale, Failed, Unknown, BadConfig}
use Rattle.fdb_keys.specs.declared.refusal.Refusal.TheVariants.{TransactionTooOld}
use Rattle.fdb_mutations.specs.declared.mutation.Mutation.{Mutation}
use Rattle.fdb_log.specs.declared.message.LogMsg.{LogMsg}
use Rattle.fdb_log.specs.declared.message.Tagged.{Tagged}
use Rattle.fdb_log.specs.Logs.{Log, config_fault, push_fault, tag_fault, peek_fault, held, IsNewLog, HasTaken}
use Rattle.fdb_log.specs.Logs.{HasPopped}

-- log 1 of two, of four tags, after an entry of version 100, with tag 3 popped through 50
abbrev pub log_one : Bool → Log
log_one is_failed =
    record {
      log = 1;
      logs = 2;
      tags = 4;
      last = 100;
      is_failed = is_failed;
      popped = 0 ∷ 0 ∷ 0 ∷ 50 ∷ [];
      queues = [] ∷ [] ∷ [] ∷ [] ∷ [];
      waiting = [];
    }

-- the message for a log of an entry after the version
abbrev pub message_after : ℕ → ℕ → LogMsg
message_after number prev = record { log = number; index = 1; version = 300; prev = prev; body = [] }

-- A message for another log comes first, then that memory ran out, then whether the message comes late or early.
abbrev pub WorkedPushes : Type 0
WorkedPushes =
    (push_fault (log_one true) (message_after 0 50) ≡ Some Unknown)
    × (push_fault (log_one true) (message_after 1 50) ≡ Some Failed)
    × (push_fault (log_one false) (message_after 0 100) ≡ Some Unknown)
    × (push_fault (log_one false) (message_after 1 50) ≡ Some Stale)
    × (push_fault (log_one false) (message_after 1 200) ≡ Some (NotYet 200))
    × (push_fault (log_one false) (message_after 1 100) ≡ None)

-- That memory ran out comes first, then a tag that isn't kept here or a version above the last one, then one below what
-- was popped. Tags 1 and 3 are kept here.
abbrev pub WorkedPeeks : Type 0
WorkedPeeks =
    (peek_fault (log_one true) 2 0 ≡ Some Failed)
    × (peek_fault (log_one false) 2 0 ≡ Some BadConfig)
    × (peek_fault (log_one false) 5 0 ≡ Some BadConfig)
    × (peek_fault (log_one false) 3 101 ≡ Some BadConfig)
    × (peek_fault (log_one false) 3 49 ≡ Some TransactionTooOld)
    × (peek_fault (log_one false) 3 50 ≡ None)
    × (peek_fault (log_one false) 3 100 ≡ None)
    × (peek_fault (log_one false) 1 0 ≡ None)

-- A pop below what was popped is no fault.
abbrev pub WorkedPops : Type 0
WorkedPops =
    (tag_fault (log_one true) 2 0 ≡ Some Failed)
    × (tag_fault (log_one false) 2 0 ≡ Some BadConfig)
    × (tag_fault (log_one false) 3 101 ≡ Some BadConfig)
    × (tag_fault (log_one false) 3 49 ≡ None)
    × (tag_fault (log_one false) 3 100 ≡ None)

-- There are 1 to 16 logs and 1 to 64 tags.
abbrev pub WorkedNumbers : Type 0
WorkedNumbers =
    (config_fault 0 0 1 ≡ Some BadConfig)
    × (config_fault 1 1 1 ≡ Some BadConfig)
    × (config_fault 0 17 1 ≡ Some BadConfig)
    × (config_fault 0 1 0 ≡ Some BadConfig)
    × (config_fault 0 1 65 ≡ Some BadConfig)
    × (config_fault 15 16 64 ≡ None)

-- a mutation with the tags
abbrev pub sent_with : Mutation → List ℕ → Tagged
sent_with mutation tags = record { place = 0; mutation = mutation; tags = tags }

-- the messages for a log of the entries of versions 100 and 200
abbrev pub first_to : ℕ → List Tagged → LogMsg
first_to number body = record { log = number; index = 0; version = 100; prev = 0; body = body }

abbrev pub second_to : ℕ → List Tagged → LogMsg
second_to number body = record { log = number; index = 1; version = 200; prev = 100; body = body }

-- Of two logs and two tags each keeps one tag. Each gets a mutation of its own, and then one that both tags have. It
-- holds both until its tag is popped through the second one.
abbrev pub WorkedHeldOfTwo : Type 0
WorkedHeldOfTwo =
    (own shared : Mutation) (new one two popped : Log)
    → IsNewLog 1 2 2 new
    → HasTaken new (first_to 1 (sent_with own (1 ∷ []) ∷ [])) one
    → HasTaken one (second_to 1 (sent_with shared (0 ∷ 1 ∷ []) ∷ [])) two
    → HasPopped two 1 200 popped
    → (held new ≡ 0) × (held one ≡ 1) × (held two ≡ 2) × (held popped ≡ 0)

-- A log that keeps both tags holds a mutation with both until the second one is popped, and holds none without a tag.
abbrev pub WorkedHeldOfOne : Type 0
WorkedHeldOfOne =
    (own shared : Mutation) (new one two first both : Log)
    → IsNewLog 0 1 2 new
    → HasTaken new (first_to 0 (sent_with own (1 ∷ []) ∷ sent_with own [] ∷ [])) one
    → HasTaken one (second_to 0 (sent_with shared (0 ∷ 1 ∷ []) ∷ [])) two
    → HasPopped two 1 200 first
    → HasPopped first 0 200 both
    → (held one ≡ 1) × (held two ≡ 2) × (held first ≡ 1) × (held both ≡ 0)
