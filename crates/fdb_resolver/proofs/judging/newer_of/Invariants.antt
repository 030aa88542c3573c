use Rattle.std.proofs.Common.{◌≡◌, ◌&&◌, ◌||◌, nat_lt}
use Rattle.std.specs.Slice.Iter.{iter_rest}
use Rattle.fdb_keys.specs.Points.{Point}
use Rattle.fdb_keys.specs.Ranges.{in_set}
use Rattle.fdb_interval.specs.Versions.{version_at}
use Rattle.fdb_resolver.proofs.judging.newer_of.Given as goal

-- with the newer points of what is left, it is those of the whole set
abbrev pub invariant-loop-range : goal.invariant-loop-range
invariant-loop-range l =
    (x : Point)
    → (in_set l.newer x || (in_set (iter_rest l.range-iterator) x && nat_lt l.version (version_at l.versions x)))
    ≡ (in_set l.reads x && nat_lt l.version (version_at l.versions x))
