use Rattle.std.proofs.Common.{◌≡◌, ◌≤◌, ◌+◌, ◌^◌, ◌-◌, min}
use Rattle.std.specs.Slice.Iter.{iter_rest}
use Rattle.fdb_txn.specs.book.Size.{bounds_size}
use Rattle.fdb_txn.proofs.size.bounds_size.Given as goal

abbrev pub invariant-loop-range : goal.invariant-loop-range
invariant-loop-range l = record {
  sum : min (l.total + bounds_size (iter_rest l.range-iterator)) (2 ^ 64 - 1) ≡ min (bounds_size l.set) (2 ^ 64 - 1);
  within : l.total ≤ 2 ^ 64 - 1;
}
