-- Which sequencers, logs and shards are at which entries, and which aren't, each of these for one thing.
use Rattle.std.specs.Prelude.{ℕ, false, List, [], ◌∷◌, codes}
use Rattle.fdb_txn.specs.declared.entry.Move.{Move}
use Rattle.fdb_txn.specs.rules.Splits.{piece}
use Rattle.fdb_sequencer.specs.Sequencer.{Sequencer, fresh}
use Rattle.fdb_log.specs.Logs.{Log}
use Rattle.fdb_storage.specs.Shards.{Shard}
use Rattle.fdb_roles.specs.SmallBooks.{plain, two_in_one_entry, empty_message_taken, from_to}
use Rattle.fdb_roles.specs.AtBook.{IsSequencerAt, IsLogAt, IsShardAt}
use Rattle.fdb_roles.specs.Serving.{ShardServes}

-- keys go over to the resolver with number 1
abbrev pub to_one : Move
to_one = record { range = from_to (codes "a") (codes "c"); to = 1 }

-- A fresh sequencer of two resolvers is at no entry, also where a move to one of them is pending. It isn't at an
-- entry, nor is one at no entry to which version 1 was reported, where what is pending goes to a third resolver,
-- which has yet to tell its proxy of a move that no entry has, of another horizon than 0, or of a window without
-- versions. It may have any other window.
abbrev pub OtherSequencersAreElsewhere : Type 0
OtherSequencersAreElsewhere =
    IsSequencerAt [] (pending (to_one ∷ []))
    × (IsSequencerAt two_in_one_entry (pending []) → ⊥)
    × (IsSequencerAt [] (record (pending []) { committed = 1 }) → ⊥)
    × (IsSequencerAt [] (pending (record to_one { to = 2 } ∷ [])) → ⊥)
    × (IsSequencerAt []
    (record (pending []) { unlearnt = (record { version = 1; moves = to_one ∷ [] } ∷ []) ∷ [] }) → ⊥)
    × (IsSequencerAt [] (record (pending []) { horizon = 1 }) → ⊥)
    × (IsSequencerAt [] (record (pending []) { window = 0 }) → ⊥)
    × IsSequencerAt [] (record (pending []) { window = 1 })
  where
    pending : List Move → Sequencer
    pending moves = record (fresh 1 2 0) { pending = moves }

-- the one log, which took the entry, popped its tag through a version and keeps no message
abbrev pub popped_to : ℕ → Log
popped_to through =
    record {
      log = 0;
      logs = 1;
      tags = 1;
      last = 100;
      is_failed = false;
      popped = through ∷ [];
      queues = [] ∷ [];
      waiting = [];
    }

-- The one log that popped its tag through the entry's version, and so keeps no message, is at the entry. One that
-- popped it through a greater version isn't, and neither is one that keeps a message of the entry without its mutation.
abbrev pub OtherLogsAreElsewhere : Type 0
OtherLogsAreElsewhere =
    IsLogAt plain two_in_one_entry 0 (popped_to 100)
    × (IsLogAt plain two_in_one_entry 0 (popped_to 101) → ⊥)
    × (IsLogAt plain two_in_one_entry 0 empty_message_taken → ⊥)

-- A shard that has nothing at any key is at no entry, but not with a floor that it hasn't reached. It isn't at the
-- entry that set a key, whether it has come to the entry's version or not.
abbrev pub OtherShardsAreElsewhere : Type 0
OtherShardsAreElsewhere =
    IsShardAt plain [] 0 (empty 0 0)
    × (IsShardAt plain [] 0 (empty 1 0) → ⊥)
    × (IsShardAt plain two_in_one_entry 0 (empty 0 100) → ⊥)
    × (IsShardAt plain two_in_one_entry 0 (empty 0 0) → ⊥)
  where
    empty : ℕ → ℕ → Shard
    empty floor version = record {
      tag = 0;
      range = piece [] 0;
      version = version;
      floor = floor;
      is_failed = false;
      keys = [];
    }

-- A shard that serves up to the entry and has nothing at the key that it sets doesn't answer from the run.
abbrev pub AnEmptyShardDoesNotServe : Type 0
AnEmptyShardDoesNotServe =
    ShardServes plain two_in_one_entry 0 (record {
      tag = 0;
      range = piece [] 0;
      version = 100;
      floor = 0;
      is_failed = false;
      keys = [];
    }) → ⊥
