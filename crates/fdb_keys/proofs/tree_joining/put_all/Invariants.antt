use Rattle.std.proofs.Common.{◌≡◌}
use Rattle.std.specs.Slice.Iter.{iter_rest}
use Rattle.fdb_keys.specs.Joining.{with_all, all_put_back}
use Rattle.fdb_keys.proofs.tree_joining.put_all.Given as goal

abbrev pub invariant-loop-range : goal.invariant-loop-range
invariant-loop-range l = record {
  all : with_all (iter_rest l.range-iterator) l.ranges.entries ≡ with_all l.joined l.initial.ranges.entries;
  back : all_put_back l.held.items l.ranges.entries ≡ l.initial.ranges.entries;
}
