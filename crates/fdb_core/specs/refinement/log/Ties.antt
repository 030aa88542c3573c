-- What logs and shards keep, as functions of what they took of the book.
use Rattle.std.specs.Prelude.{◌≡◌, ◌≤◌, ℕ, suc, true, false, List, map, take, length, Some, slice_get}
use Rattle.std.specs.FinMap.{get}
use Rattle.fdb_keys.specs.Points.{Point}
use Rattle.fdb_keys.specs.Ranges.{in_range}
use Rattle.fdb_txn.specs.declared.entry.Entry.{Entry}
use Rattle.fdb_txn.specs.book.Book.{seen_of, last_version}
use Rattle.fdb_txn.specs.rules.SerialMap.{serial_map_at}
use Rattle.fdb_txn.specs.rules.Splits.{piece}
use Rattle.fdb_log.specs.Logs.{popped_through}
use Rattle.fdb_log.specs.Messages.{log_of}
use Rattle.fdb_storage.specs.Shards.{value_at}
use Rattle.fdb_proxy.specs.declared.config.Config.{Config}
use Rattle.fdb_roles.specs.AtBook.{IsLogAfter}
use Rattle.fdb_roles.specs.Lists.{Each}
use Rattle.fdb_core.specs.declared.roles.log.LogRole.{LogRole}
use Rattle.fdb_core.specs.declared.roles.shard.ShardRole.{ShardRole}
use Rattle.fdb_machine.specs.machine.Roles.{ShardProgress}

-- how many entries each log took
abbrev pub logs_taken : List LogRole → List ℕ
logs_taken logs = map (λ (role : LogRole). role.taken) logs

-- how far a shard is
abbrev pub progress_of : ShardRole → ShardProgress
progress_of role = record { applied = role.applied; floor = role.state.floor; popped = role.popped }

module _ (config : Config) (book : List Entry) where
  -- a shard applied this many entries, and answers from the run of these
  pub record ShardRefines (i : ℕ) (role : ShardRole) : Type 0 where
    pub tag : role.state.tag ≡ i
    pub range : role.state.range ≡ piece config.shard_splits i
    pub works : role.state.is_failed ≡ false
    pub within : role.applied ≤ length book
    pub version : role.state.version ≡ last_version (take role.applied book)
    pub serving : role.state.floor ≤ role.state.version
    pub popped : role.popped ≤ role.state.version
    pub serves : (v : ℕ) (x : Point) → role.state.floor ≤ v → v ≤ role.state.version
        → in_range (piece config.shard_splits i) x ≡ true
        → value_at role.state v x
        ≡ get (serial_map_at config.resolver_splits v (seen_of (take role.applied book)).places) x

-- a log of the world took as many entries as it says
abbrev pub LogRefines : Config → List Entry → ℕ → LogRole → Type 0
LogRefines config book i role = IsLogAfter config book i role.state role.taken

-- a shard applied no more than its log took, and its log dropped what it was told to drop
abbrev pub TagRefines : List LogRole → ℕ → ShardRole → Type 0
TagRefines logs i shard =
    (log : LogRole) → slice_get logs (log_of (length logs) i) ≡ Some log
    → (shard.applied ≤ log.taken) × (popped_through log.state i ≡ shard.popped)

-- the logs and the shards, of which there are as many as the configuration says
pub record LogsRefine (config : Config) (book : List Entry) (logs : List LogRole) (shards : List ShardRole) : Type 0
  where
    pub log_count : length logs ≡ config.logs
    pub shard_count : length shards ≡ suc (length config.shard_splits)
    pub each_log : Each (LogRefines config book) logs
    pub each_shard : Each (ShardRefines config book) shards
    pub each_tag : Each (TagRefines logs) shards
