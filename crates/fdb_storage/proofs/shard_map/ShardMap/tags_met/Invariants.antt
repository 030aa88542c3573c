use Rattle.std.proofs.Common.{◌≡◌, ℕ, filter}
use Rattle.std.specs.List.{range_with_len}
use Rattle.fdb_keys.specs.Ranges.{ranges_meet}
use Rattle.fdb_txn.specs.rules.Splits.{piece}
use Rattle.fdb_storage.proofs.shard_map.ShardMap.tags_met.Given as goal

abbrev pub invariant-loop-tag : goal.invariant-loop-tag
invariant-loop-tag l = l.tags ≡ filter (λ (tag : ℕ). ranges_meet (piece l.self tag) l.range) (range_with_len 0 l.tag)
