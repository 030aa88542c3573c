-- What shards have, beside the run.
use Rattle.std.specs.Prelude.{◌≡◌, ℕ, Bool, true, false, ◌&&◌, nat_le, List, Option, Some, Result, MatchResult, ◌⊎◌}
use Rattle.std.specs.Prelude.{slice_get}
use Rattle.std.specs.List.{AllByRecursion}
use Rattle.std.specs.FinMap.{get}
use Rattle.fdb_keys.specs.Points.{Point}
use Rattle.fdb_keys.specs.Ranges.{in_range}
use Rattle.fdb_mutations.specs.Maps.{Map}
use Rattle.fdb_txn.specs.declared.entry.Entry.{Entry}
use Rattle.fdb_txn.specs.book.Book.{seen_of}
use Rattle.fdb_txn.specs.rules.SerialMap.{serial_map_at}
use Rattle.fdb_storage.specs.Shards.{Shard, value_at}
use Rattle.fdb_check.specs.Versions.{is_below}
use Rattle.fdb_core.specs.declared.roles.shard.ShardRole.{ShardRole}
use Rattle.fdb_check.specs.declared.fault.CheckFault.{CheckFault}
use Rattle.fdb_check.specs.declared.fault.CheckFault.TheVariants as fault

-- at its version the shard has the map's values in its range
abbrev pub HasTheMap : Map → Shard → Type 0
HasTheMap map shard = (x : Point) → in_range shard.range x ≡ true → value_at shard shard.version x ≡ get map x

-- at its version the shard, unless it has failed, has the run's values in its range
abbrev pub HoldsTheRun : List Point → List Entry → ShardRole → Type 0
HoldsTheRun splits book role =
    role.state.is_failed ≡ false
    → HasTheMap (serial_map_at splits role.state.version (seen_of book).places) role.state

-- the shard's version is from one on and below another, where there is one
abbrev pub is_between : ℕ → Option ℕ → ShardRole → Bool
is_between from until role = nat_le from role.state.version && is_below role.state.version until

-- a shard that is there has the map, unless it has failed
abbrev pub HasTheMapThere : ℕ → Option ℕ → Map → ShardRole → Type 0
HasTheMapThere from until map role =
    role.state.is_failed ≡ false → is_between from until role ≡ true → HasTheMap map role.state

-- the fault names one of the shards, of which the claim isn't true
abbrev pub ShardDiffers : (ShardRole → Type 0) → List ShardRole → CheckFault → Type 0
ShardDiffers Claim shards found =
    (i : ℕ) × (role : ShardRole) × (slice_get shards i ≡ Some role) × (found ≡ fault.Shard i) × ¬ Claim role

-- memory ran out, or the fault names a shard of which the claim isn't true
abbrev pub StopsByShard : (ShardRole → Type 0) → List ShardRole → CheckFault → Type 0
StopsByShard Claim shards found = (found ≡ fault.NoMemory) ⊎ ShardDiffers Claim shards found

-- a fault is found just where the claim isn't true of each shard, if memory doesn't run out
abbrev pub ChecksShards : {T : Type 0} → Result T CheckFault → (ShardRole → Type 0) → List ShardRole → Type 0
ChecksShards result Claim shards = MatchResult result (λ _. AllByRecursion Claim shards) (StopsByShard Claim shards)
