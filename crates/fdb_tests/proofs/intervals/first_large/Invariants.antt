use Rattle.std.proofs.Common.{◌≤◌}
use Rattle.fdb_keys.specs.Points.{Point}
use Rattle.fdb_interval.specs.Versions.{version_at}
use Rattle.fdb_tests.proofs.intervals.first_large.Given as goal

abbrev pub invariant-loop-version : goal.invariant-loop-version
invariant-loop-version l = (x : Point) → version_at l.last x ≤ l.version
