-- What a log keeps, why it refuses, and what its calls leave.
use Rattle.std.specs.Prelude.{◌≡◌, ◌<◌, ◌≤◌, ◌+◌, ℕ, max, Bool, true, false, not, ◌&&◌, ◌||◌, ◌==◌, nat_lt, nat_le}
use Rattle.std.specs.Prelude.{List, []}
use Rattle.std.specs.Prelude.{◌∷◌, ◌++◌, take, length, Option, Some, None, slice_get, unwrap_or, if◌then◌else◌}
use Rattle.fdb_keys.specs.declared.refusal.Refusal.{Refusal}
use Rattle.fdb_keys.specs.declared.refusal.Refusal.TheVariants.{Failed, Unknown, BadConfig, TransactionTooOld}
use Rattle.fdb_txn.specs.declared.tag_msg.TagMsg.{TagMsg}
use Rattle.fdb_log.specs.declared.message.LogMsg.{LogMsg}
use Rattle.fdb_log.specs.declared.message.Tagged.{Tagged}
use Rattle.fdb_log.specs.declared.peek.Peek.{Peek}
use Rattle.fdb_txn.specs.Limits.{log_limit, tag_limit}
use Rattle.fdb_txn.specs.Turn.{turn_fault}
use Rattle.std.specs.List.{AllByRecursion, list_any, count_by, filter}
use Rattle.fdb_log.specs.Messages.{log_of, tag_message, above}
use Rattle.fdb_log.specs.Peeks.{RiseAfter, through_after}
use Rattle.fdb_log.specs.Waiting.{Waiting, waits, waits_for_alone, waiting_of}

-- its number, how many logs and tags there are, the version of the last entry that it took, whether memory ran out,
-- the version through which each tag was popped, what it keeps of each tag, and the mutations that wait
pub record Log : Type 0 where
  pub log : ℕ
  pub logs : ℕ
  pub tags : ℕ
  pub last : ℕ
  pub is_failed : Bool
  pub popped : List ℕ
  pub queues : List (List TagMsg)
  pub waiting : List Waiting

-- the tag is kept here
abbrev pub keeps : Log → ℕ → Bool
keeps core tag = nat_lt tag core.tags && (log_of core.logs tag == core.log)

-- the version through which the tag was popped, 0 where it never was
abbrev pub popped_through : Log → ℕ → ℕ
popped_through core tag = unwrap_or (slice_get core.popped tag) 0

-- the tag's messages that are kept, one for each entry above what was popped, in order
abbrev pub kept : Log → ℕ → List TagMsg
kept core tag = unwrap_or (slice_get core.queues tag) []

-- it keeps nothing of a tag that isn't kept here
abbrev pub KeepsOwnAlone : Log → Type 0
KeepsOwnAlone core = (tag : ℕ) → keeps core tag ≡ false → kept core tag ≡ []

-- how many mutations are held: those that some tag of theirs kept here has not popped
abbrev pub held : Log → ℕ
held core = length core.waiting

-- why there is no such log
abbrev pub config_fault : (log logs tags : ℕ) → Option Refusal
config_fault log logs tags =
    if nat_lt log logs && nat_le logs log_limit && (nat_le 1 tags && nat_le tags tag_limit) then None
    else Some BadConfig

-- why it refuses a message
abbrev pub push_fault : Log → LogMsg → Option Refusal
push_fault core message =
    if not (message.log == core.log) then Some Unknown
    else (if core.is_failed then Some Failed
    else turn_fault core.last message.prev)

-- why it refuses to speak of a tag and a version
abbrev pub tag_fault : Log → (tag version : ℕ) → Option Refusal
tag_fault core tag version =
    if core.is_failed then Some Failed
    else (if not (keeps core tag) || nat_lt core.last version then Some BadConfig
    else None)

-- why it refuses to give messages after a version
abbrev pub peek_fault : Log → (tag after : ℕ) → Option Refusal
peek_fault core tag after =
    if core.is_failed then Some Failed
    else (if not (keeps core tag) || nat_lt core.last after then Some BadConfig
    else (if nat_lt after (popped_through core tag) then Some TransactionTooOld
    else None))

-- the first of the tag's messages after a version, as many as the limit says
abbrev pub given_after : Log → (tag after limit : ℕ) → List TagMsg
given_after core tag after limit = take limit (above after (kept core tag))

abbrev pub peek_of : Log → (tag after limit : ℕ) → Peek
peek_of core tag after limit =
    record {
      tag = tag;
      after = after;
      through = through_after after (given_after core tag after limit);
      messages = given_after core tag after limit;
    }

-- Between two calls its number is that of a log, and there are no more logs and tags than their limits say. Unless
-- memory ran out, each tag was popped through at most the last entry's version, the messages that are kept of a tag
-- rise from there up to that version, and each mutation that waits is of an entry up to it and has a tag that wasn't
-- popped so far; and it keeps nothing of a tag that isn't kept here.
pub record IsLog (core : Log) : Type 0 where
  pub number : core.log < core.logs
  pub few : core.logs ≤ log_limit
  pub few_tags : core.tags ≤ tag_limit
  pub tagged : length core.popped ≡ core.tags
  pub queued : length core.queues ≡ core.tags
  pub within : core.is_failed ≡ false → (tag : ℕ) → popped_through core tag ≤ core.last
  pub rising : core.is_failed ≡ false → (tag : ℕ) → keeps core tag ≡ true
      → RiseAfter (popped_through core tag) (kept core tag)
  pub through : core.is_failed ≡ false → (tag : ℕ) → keeps core tag ≡ true
      → through_after (popped_through core tag) (kept core tag) ≡ core.last
  pub taken : core.is_failed ≡ false → AllByRecursion (λ (one : Waiting). one.0.0 ≤ core.last) core.waiting
  pub waiting : core.is_failed ≡ false
      → AllByRecursion (λ (one : Waiting). waits (popped_through core) one ≡ true) core.waiting
  pub own_alone : core.is_failed ≡ false → KeepsOwnAlone core

-- it has taken nothing, and no tag was popped
pub record IsNewLog (number log_count tag_count : ℕ) (core : Log) : Type 0 where
  pub log : core.log ≡ number
  pub logs : core.logs ≡ log_count
  pub tags : core.tags ≡ tag_count
  pub last : core.last ≡ 0
  pub works : core.is_failed ≡ false
  pub popped : (tag : ℕ) → popped_through core tag ≡ 0
  pub kept : (tag : ℕ) → kept core tag ≡ []
  pub waiting : core.waiting ≡ []
  pub held : held core ≡ 0

-- it is the same log
pub record IsSameLog (old new : Log) : Type 0 where
  pub log : new.log ≡ old.log
  pub logs : new.logs ≡ old.logs
  pub tags : new.tags ≡ old.tags

-- It keeps of each tag that is kept here what it kept, and then what the message has for the tag, and nothing of any
-- other tag. It holds what it held, and then each mutation of the message that has a tag which is kept here.
pub record HasTaken (old : Log) (message : LogMsg) (new : Log) : Type 0 where
  pub same : IsSameLog old new
  pub last : new.last ≡ message.version
  pub works : new.is_failed ≡ false
  pub popped : (tag : ℕ) → popped_through new tag ≡ popped_through old tag
  pub kept : (tag : ℕ) → keeps old tag ≡ true → kept new tag ≡ kept old tag ++ tag_message tag message ∷ []
  pub waiting : new.waiting ≡ old.waiting ++ waiting_of (keeps old) message
  pub held : held new ≡ held old + count_by (λ (sent : Tagged). list_any (keeps old) sent.tags) message.body
  pub own_alone : KeepsOwnAlone new

-- It keeps of the tag what lies above the version, and of every other tag what it kept. It holds what still waits:
-- what it held, but for what waited for this tag alone, through the version.
pub record HasPopped (old : Log) (tag through : ℕ) (new : Log) : Type 0 where
  pub same : IsSameLog old new
  pub last : new.last ≡ old.last
  pub works : new.is_failed ≡ false
  pub popped : popped_through new tag ≡ max (popped_through old tag) through
  pub dropped : kept new tag ≡ above through (kept old tag)
  pub others_popped : (other : ℕ) → (other == tag) ≡ false → popped_through new other ≡ popped_through old other
  pub others_kept : (other : ℕ) → (other == tag) ≡ false → kept new other ≡ kept old other
  pub waiting : new.waiting ≡ filter (waits (popped_through new)) old.waiting
  pub held : held new + count_by (waits_for_alone (popped_through old) tag through) old.waiting ≡ held old

-- It is the same log, and refuses every further call. The last entry that it took, and how far each tag was popped,
-- are what they were.
pub record HasFailed (old new : Log) : Type 0 where
  pub same : IsSameLog old new
  pub fails : new.is_failed ≡ true
  pub last : new.last ≡ old.last
  pub popped : (tag : ℕ) → popped_through new tag ≡ popped_through old tag
