use Rattle.std.proofs.Common.{◌≡◌}
use Rattle.std.specs.BTreeMap.{values}
use Rattle.std.specs.List.{fold}
use Rattle.std.specs.Slice.Iter.{iter_rest}
use Rattle.fdb_keys.specs.Insertion.{with_range}
use Rattle.fdb_keys.specs.Joining.{all_joined}
use Rattle.fdb_keys.specs.Touching.{joined_with_touched}
use Rattle.fdb_keys.proofs.tree_joining.join_all.Given as goal

abbrev pub invariant-loop-range : goal.invariant-loop-range
invariant-loop-range l =
    fold (λ set range. with_range (joined_with_touched range (values l.ranges)) set) l.joined
    (iter_rest l.range-iterator) ≡ all_joined l.added (values l.ranges)
