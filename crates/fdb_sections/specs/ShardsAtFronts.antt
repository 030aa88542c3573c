-- Shards of running threads: each is its state with the front of the book that it has applied.
use Rattle.std.specs.Prelude.{◌≡◌, ◌==◌, ◌+◌, ◌<◌, suc, nat_lt, not, false, List, length, take, Option, Some, None}
use Rattle.std.specs.Prelude.{if◌then◌else◌}
use Rattle.fdb_keys.specs.declared.refusal.Refusal.{Refusal}
use Rattle.fdb_keys.specs.declared.refusal.Refusal.TheVariants.{Failed, Stale, Unknown}
use Rattle.fdb_txn.specs.declared.entry.Entry.{Entry}
use Rattle.fdb_txn.specs.Turn.{turn_fault}
use Rattle.fdb_log.specs.declared.peek.Peek.{Peek}
use Rattle.fdb_storage.specs.Shards.{Shard, HasApplied}
use Rattle.fdb_proxy.specs.declared.config.Config.{Config}
use Rattle.fdb_roles.specs.AtBook.{IsShardAt}
use Rattle.fdb_sections.specs.Messages.{PeekAtFront}

pub record ShardAtFront : Type 0 where
  pub front : List Entry
  pub shard : Shard

-- it is one of the shards, and unless memory ran out it applied the entries of its front
abbrev pub IsThere : Config → ShardAtFront → Type 0
IsThere config at =
    (at.shard.tag < suc (length config.shard_splits))
    × (at.shard.is_failed ≡ false → IsShardAt config at.front at.shard.tag at.shard)

-- why who took a front refuses what comes with another one: that is the shorter one
abbrev pub shorter_fault : List Entry → List Entry → Option Refusal
shorter_fault own theirs = if nat_lt (length theirs) (length own) then Some Stale else None

-- why a peek of a log isn't the shard's next one. The state refuses it for nothing else: what logs are sent waits for
-- no stamp.
abbrev pub next_fault : Shard → Peek → Option Refusal
next_fault shard peek =
    if not (peek.tag == shard.tag) then Some Unknown
    else (if shard.is_failed then Some Failed else turn_fault shard.version peek.after)

-- why it refuses a peek: the log that gave it took less than the shard applied, or else it isn't the next one
abbrev pub peek_fault : ShardAtFront → PeekAtFront → Option Refusal
peek_fault at given =
    if nat_lt (length given.front) (length at.front) then Some Stale else next_fault at.shard given.peek

-- the log's front, cut to as many entries more than the shard's as there are messages
abbrev pub front_through : ShardAtFront → PeekAtFront → List Entry
front_through at given = take (length at.front + length given.peek.messages) given.front

-- It applied the messages, and its front has one entry more for each of them.
pub record HasGoneOn (old : ShardAtFront) (given : PeekAtFront) (new : ShardAtFront) : Type 0 where
  pub applied : HasApplied old.shard given.peek new.shard
  pub front : new.front ≡ front_through old given
  pub count : length new.front ≡ length old.front + length given.peek.messages
