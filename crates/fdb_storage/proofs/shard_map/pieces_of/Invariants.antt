use Rattle.std.proofs.Common.{◌≡◌, map}
use Rattle.std.specs.List.{range_with_len}
use Rattle.fdb_txn.specs.rules.Splits.{piece}
use Rattle.fdb_storage.proofs.shard_map.pieces_of.Given as goal

abbrev pub invariant-loop-number : goal.invariant-loop-number
invariant-loop-number l = l.ranges ≡ map (piece l.splits) (range_with_len 0 l.number)
