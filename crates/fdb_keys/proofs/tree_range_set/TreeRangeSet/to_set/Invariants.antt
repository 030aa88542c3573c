use Rattle.std.proofs.Common.{◌≡◌, ◌++◌}
use Rattle.fdb_keys.proofs.tree_range_set.TreeRangeSet.to_set.Given as goal

abbrev pub invariant-loop-range : goal.invariant-loop-range
invariant-loop-range l = l.ranges.items ++ l.range-iterator ≡ l.initial.range-iterator
