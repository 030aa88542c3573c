-- What peeks of one tag cover, and the messages that they hold.
use Rattle.std.specs.Prelude.{ℕ, suc, max, nat_le, nat_lt, List, [], ◌∷◌, ◌++◌, Option, Some, None, if◌then◌else◌}
use Rattle.std.specs.Option.{option_or}
use Rattle.fdb_keys.specs.declared.refusal.Refusal.{Refusal}
use Rattle.fdb_keys.specs.declared.refusal.Refusal.TheVariants.{NotYet}
use Rattle.fdb_txn.specs.declared.tag_msg.TagMsg.{TagMsg}
use Rattle.fdb_log.specs.declared.peek.Peek.{Peek}
use Rattle.fdb_storage.specs.StampedMessages.{stamped_fault}

-- the version through which peeks go on from a version one after another
abbrev pub covered_from : ℕ → List Peek → ℕ
covered_from through [] = through
covered_from through (peek ∷ peeks) =
    if nat_le peek.after through then covered_from (max through peek.through) peeks else through

-- and from 0
abbrev pub covered : List Peek → ℕ
covered peeks = covered_from 0 peeks

-- the messages of the peeks, in order
abbrev pub messages_of : List Peek → List TagMsg
messages_of [] = []
messages_of (peek ∷ peeks) = peek.messages ++ messages_of peeks

-- why peeks don't tell the map at a version: a mutation in them waits for a stamp, or else the first version that they
-- don't cover isn't above it
abbrev pub replay_fault : List Peek → ℕ → Option Refusal
replay_fault peeks version =
    option_or (stamped_fault (messages_of peeks))
    (if nat_lt (covered peeks) version then Some (NotYet (suc (covered peeks))) else None)
