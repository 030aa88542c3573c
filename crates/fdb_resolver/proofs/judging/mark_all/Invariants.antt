use Rattle.std.proofs.Common.{◌≡◌, ◌≤◌, if◌then◌else◌}
use Rattle.std.specs.Slice.Iter.{iter_rest}
use Rattle.fdb_keys.specs.Points.{Point}
use Rattle.fdb_keys.specs.Ranges.{in_set}
use Rattle.fdb_interval.specs.Versions.{version_at}
use Rattle.fdb_resolver.proofs.judging.mark_all.Given as goal

-- with what is left marked too, the whole set is
abbrev pub invariant-loop-range : goal.invariant-loop-range
invariant-loop-range l =
    record {
      marks : (x : Point) → (if in_set (iter_rest l.range-iterator) x then l.version else version_at l.versions x)
          ≡ (if in_set l.writes x then l.version else version_at l.initial.versions x);
      below : (x : Point) → version_at l.versions x ≤ l.version;
    }
