use Rattle.std.proofs.Common.{◌≡◌, ◌++◌, true}
use Rattle.std.specs.Slice.Iter.{iter_rest}
use Rattle.fdb_keys.specs.Joining.{begins_within_all}
use Rattle.fdb_keys.specs.Ranges.{is_apart}
use Rattle.fdb_keys.proofs.tree_joining.list_begins_within_all.Given as goal

abbrev pub invariant-loop-range : goal.invariant-loop-range
invariant-loop-range l = record {
  apart : is_apart (iter_rest l.range-iterator) ≡ true;
  all : l.begins.items ++ begins_within_all (iter_rest l.range-iterator) l.ranges.entries
      ≡ begins_within_all l.joined l.ranges.entries;
}
