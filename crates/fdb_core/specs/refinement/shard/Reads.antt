-- The shards, read at a version.
use Rattle.std.specs.Prelude.{◌≡◌, ◌≤◌, ℕ, suc, Bool, true, false, List, filter, map, take, length, Option, Some}
use Rattle.std.specs.Prelude.{slice_get, if◌then◌else◌}
use Rattle.std.specs.FinMap.{get}
use Rattle.std.specs.List.{list_any}
use Rattle.fdb_keys.specs.declared.refusal.Refusal.{Refusal}
use Rattle.fdb_keys.specs.declared.refusal.Refusal.TheVariants.{Failed}
use Rattle.fdb_keys.specs.Points.{Point}
use Rattle.fdb_keys.specs.Ranges.{Range, in_range}
use Rattle.fdb_mutations.specs.Maps.{Map}
use Rattle.fdb_mutations.specs.Pairs.{pairs_in}
use Rattle.fdb_txn.specs.declared.entry.Entry.{Entry}
use Rattle.fdb_txn.specs.book.Book.{seen_of, last_version}
use Rattle.fdb_txn.specs.rules.Owners.{first_owner}
use Rattle.fdb_txn.specs.rules.SerialMap.{serial_map_at}
use Rattle.fdb_txn.specs.rules.Splits.{are_splits, piece}
use Rattle.fdb_storage.specs.Shards.{value_at}
use Rattle.fdb_proxy.specs.declared.config.Config.{Config}
use Rattle.fdb_roles.specs.Lists.{Each}
use Rattle.fdb_core.specs.declared.roles.shard.ShardRole.{ShardRole}
use Rattle.fdb_machine.specs.machine.ClientSteps.{fault_among, shard_begins}
use Rattle.fdb_machine.specs.machine.Machine.{is_set}
use Rattle.fdb_machine.specs.machine.RoleSteps.{shard_fault}
use Rattle.fdb_core.specs.refinement.log.Ties.{progress_of}

pub record ShardReads : Type 0 where
  pub version : ℕ
  pub config : Config
  pub book : List Entry
  pub shards : List ShardRole

-- the serial map at the version
abbrev pub run_map : ShardReads → Map
run_map reads = serial_map_at reads.config.resolver_splits reads.version (seen_of reads.book).places

-- the shard that holds the point has failed
abbrev pub has_failed_at : ShardReads → Point → Bool
has_failed_at reads x =
    is_set (map (λ (role : ShardRole). role.state.is_failed) reads.shards) (first_owner reads.config.shard_splits x)

-- why a point is not served, as the machine says it
abbrev pub point_fault : ShardReads → Point → Option Refusal
point_fault reads x =
    shard_fault reads.book reads.version
    (slice_get (map progress_of reads.shards) (first_owner reads.config.shard_splits x))

-- why a point is not read: its shard has failed, or doesn't serve it
abbrev pub key_fault : ShardReads → Point → Option Refusal
key_fault reads x = if has_failed_at reads x then Some Failed else point_fault reads x

-- and why a range is not read: a shard that holds some of it has failed, or doesn't serve it
abbrev pub range_fault : ShardReads → Range → Option Refusal
range_fault reads range =
    let points = shard_begins reads.config.shard_splits range in
    if list_any (has_failed_at reads) points then Some Failed else fault_among (point_fault reads) points

-- of the pairs of a range on the serial map those whose keys shard i holds
abbrev pub pairs_held : ShardReads → ℕ → Range → Bool → List (Point × List ℕ)
pairs_held reads i range is_reverse =
    filter (λ pair. in_range (piece reads.config.shard_splits i) pair.0) (pairs_in (run_map reads) range is_reverse)

-- A shard holds its piece of the keys, and answers from the run where it hasn't failed and serves the version.
pub record IsReadable (reads : ShardReads) (i : ℕ) (role : ShardRole) : Type 0 where
  pub range : role.state.range ≡ piece reads.config.shard_splits i
  pub version : role.state.version ≡ last_version (take role.applied reads.book)
  pub serves : role.state.is_failed ≡ false → (x : Point) → role.state.floor ≤ reads.version
      → reads.version ≤ role.state.version
      → in_range (piece reads.config.shard_splits i) x ≡ true → value_at role.state reads.version x
      ≡ get (run_map reads) x

-- there is a shard for each piece of the keys, and each is readable
pub record AreReadable (reads : ShardReads) : Type 0 where
  pub splits : are_splits reads.config.shard_splits ≡ true
  pub as_many : length reads.shards ≡ suc (length reads.config.shard_splits)
  pub each : Each (IsReadable reads) reads.shards
