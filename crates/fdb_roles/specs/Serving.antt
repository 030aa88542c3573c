-- What a shard answers from.
use Rattle.std.specs.Prelude.{◌≡◌, ◌≤◌, ℕ, true, false, List}
use Rattle.std.specs.FinMap.{get}
use Rattle.fdb_keys.specs.Points.{Point}
use Rattle.fdb_keys.specs.Ranges.{in_range}
use Rattle.fdb_txn.specs.book.Book.{seen_of}
use Rattle.fdb_txn.specs.rules.SerialMap.{serial_map_at}
use Rattle.fdb_txn.specs.rules.Splits.{piece}
use Rattle.fdb_txn.specs.declared.entry.Entry.{Entry}
use Rattle.fdb_storage.specs.Shards.{Shard, value_at}
use Rattle.fdb_proxy.specs.declared.config.Config.{Config}

-- A shard that hasn't failed answers, at each version that it serves (from its floor through its version) and at each
-- point that it holds, what stands there on the serial map.
abbrev pub ShardServes : Config → List Entry → ℕ → Shard → Type 0
ShardServes config book i shard =
    shard.is_failed ≡ false → (v : ℕ) (x : Point) → shard.floor ≤ v → v ≤ shard.version
    → in_range (piece config.shard_splits i) x ≡ true
    → value_at shard v x ≡ get (serial_map_at config.resolver_splits v (seen_of book).places) x
