use Rattle.std.proofs.Common.{◌≡◌, map, take, drop, ◌++◌}
use Rattle.fdb_keys.specs.Ranges.{single_range}
use Rattle.fdb_keys.specs.Singles.{ends_of}
use Rattle.fdb_keys.proofs.single_ranges.push_singles.Given as goal

abbrev pub invariant-loop-key : goal.invariant-loop-key
invariant-loop-key l = record {
  list : l.ranges.items ≡ l.initial.ranges.items ++ map single_range (take l.key-index l.keys);
  ends : l.ends ≡ ends_of (drop l.key-index l.keys);
}
