use Rattle.std.proofs.Common.{◌≡◌, ◌||◌, true}
use Rattle.std.specs.Slice.Iter.{iter_rest}
use Rattle.fdb_keys.specs.Points.{Point}
use Rattle.fdb_keys.specs.Ranges.{in_set}
use Rattle.fdb_owners.proofs.parts.add_all.Given as goal

-- with what is left added too, all is; and what was in the set is
abbrev pub invariant-loop-range : goal.invariant-loop-range
invariant-loop-range l = record {
  all : (x : Point) → (in_set (iter_rest l.range-iterator) x || in_set l.set x)
      ≡ (in_set l.added x || in_set l.initial.set x);
  kept : (x : Point) → in_set l.initial.set x ≡ true → in_set l.set x ≡ true;
}
