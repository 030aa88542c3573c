use Rattle.std.proofs.Common.{◌≡◌, map, ◌++◌}
use Rattle.std.specs.Slice.Iter.{chunks_rest, chunks_size}
use Rattle.fdb_keys.specs.Ranges.{single_range}
use Rattle.fdb_keys.proofs.key_range.KeyRange.singles.Given as goal

abbrev pub invariant-loop-group : goal.invariant-loop-group
invariant-loop-group l = record {
  size : chunks_size l.group-iterator ≡ 4;
  list : l.ranges.items ++ map single_range (chunks_rest l.group-iterator) ≡ map single_range l.keys;
}
