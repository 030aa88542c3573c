-- What it means that a role is where a book leaves it.
use Rattle.std.specs.Prelude.{◌≡◌, ℕ, false, List, ◌<◌, ◌≤◌, suc, true, ◌++◌, length, take}
use Rattle.std.specs.List.{AllByRecursion}
use Rattle.std.specs.FinMap.{get}
use Rattle.fdb_keys.specs.Points.{Point}
use Rattle.fdb_keys.specs.Ranges.{in_range}
use Rattle.fdb_interval.specs.Versions.{version_at}
use Rattle.fdb_txn.specs.declared.entry.Entry.{Entry}
use Rattle.fdb_txn.specs.book.Book.{seen_of, last_version, last_horizon}
use Rattle.fdb_txn.specs.rules.Resolvers.{IsStateOf}
use Rattle.fdb_txn.specs.declared.entry.Move.{Move}
use Rattle.fdb_txn.specs.rules.Messages.{messages_for}
use Rattle.fdb_txn.specs.rules.SerialMap.{serial_map_at}
use Rattle.fdb_txn.specs.rules.Splits.{piece}
use Rattle.fdb_resolver.specs.Resolvers.{Resolver}
use Rattle.fdb_sequencer.specs.declared.dated.Dated.{Dated}
use Rattle.fdb_sequencer.specs.Sequencer.{Sequencer, unlearnt_by}
use Rattle.fdb_log.specs.Logs.{Log, keeps, kept, popped_through}
use Rattle.fdb_log.specs.Messages.{above}
use Rattle.fdb_storage.specs.Shards.{Shard, value_at}
use Rattle.fdb_proxy.specs.declared.config.Config.{Config}
use Rattle.fdb_roles.specs.Entries.{dated_moves}

-- Resolver i took these entries. From the last one's horizon on it answers as the last versions of their places.
pub record IsResolverAt (splits : List Point) (before : List Entry) (i : ℕ) (resolver : Resolver) : Type 0 where
  pub index : resolver.index ≡ i
  pub last : resolver.last ≡ last_version before
  pub works : resolver.is_failed ≡ false
  pub state : IsStateOf splits i (seen_of before).places (last_horizon before) (version_at resolver.versions)

-- some moves are the last ones of others
abbrev pub AreLastOf : List Dated → List Dated → Type 0
AreLastOf last all = (first : List Dated) × (first ++ last ≡ all)

-- The sequencer accepted the tickets of these entries, and no version above theirs was reported. What is pending goes
-- to its resolvers, and each proxy has had the entries' moves but for some last ones. Its last horizon is that of the
-- last entry, and its window holds a version.
pub record IsSequencerAt (book : List Entry) (sequencer : Sequencer) : Type 0 where
  pub accepted : sequencer.accepted ≡ length book
  pub last : sequencer.last ≡ last_version book
  pub committed : sequencer.committed ≤ last_version book
  pub targets : AllByRecursion (λ (move : Move). move.to < sequencer.resolvers) sequencer.pending
  pub unlearnt : (proxy : ℕ) → AreLastOf (unlearnt_by sequencer proxy) (dated_moves book)
  pub horizon : sequencer.horizon ≡ last_horizon book
  pub window : 1 ≤ sequencer.window

module _ (config : Config) (book : List Entry) where
  -- log i took this many entries, and keeps of each of its tags the messages of these above what was popped
  pub record IsLogAfter (i : ℕ) (log : Log) (taken : ℕ) : Type 0 where
    pub number : log.log ≡ i
    pub logs : log.logs ≡ config.logs
    pub tags : log.tags ≡ suc (length config.shard_splits)
    pub works : log.is_failed ≡ false
    pub within : taken ≤ length book
    pub last : log.last ≡ last_version (take taken book)
    pub kept : (tag : ℕ) → keeps log tag ≡ true
        → kept log tag ≡ above (popped_through log tag)
        (messages_for config.resolver_splits (piece config.shard_splits tag) (take taken book))

  -- log l took these entries, popped no tag above the last one's version, and keeps of each of its tags the messages of
  -- the entries above what was popped
  pub record IsLogAt (l : ℕ) (log : Log) : Type 0 where
    pub number : log.log ≡ l
    pub logs : log.logs ≡ config.logs
    pub tags : log.tags ≡ suc (length config.shard_splits)
    pub works : log.is_failed ≡ false
    pub last : log.last ≡ last_version book
    pub popped : (tag : ℕ) → popped_through log tag ≤ log.last
    pub kept : (tag : ℕ) → keeps log tag ≡ true
        → kept log tag ≡ above (popped_through log tag)
        (messages_for config.resolver_splits (piece config.shard_splits tag) book)

  -- shard s applied these entries, and answers from their run
  pub record IsShardAt (s : ℕ) (shard : Shard) : Type 0 where
    pub tag : shard.tag ≡ s
    pub range : shard.range ≡ piece config.shard_splits s
    pub works : shard.is_failed ≡ false
    pub version : shard.version ≡ last_version book
    pub serving : shard.floor ≤ shard.version
    pub serves : (v : ℕ) (x : Point) → shard.floor ≤ v → v ≤ shard.version
        → in_range (piece config.shard_splits s) x ≡ true
        → value_at shard v x ≡ get (serial_map_at config.resolver_splits v (seen_of book).places) x
