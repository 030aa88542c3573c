use Rattle.std.proofs.Common.{◌≡◌, ◌≤◌, take}
use Rattle.fdb_keys.specs.Points.{Point}
use Rattle.fdb_interval.specs.Versions.{version_at}
use Rattle.fdb_resolver.specs.Rule.{AreVerdicts, AreConflicts, versions_after}
use Rattle.fdb_resolver.proofs.judging.judge_items.Given as goal

abbrev pub invariant-loop-item : goal.invariant-loop-item
invariant-loop-item l =
    record {
      verdicts : AreVerdicts l.version l.horizon (version_at l.initial.versions) (take l.item-index l.items) l.answers;
      conflicts : AreConflicts l.version (version_at l.initial.versions) (take l.item-index l.items) l.answers
          l.conflicts;
      versions : (x : Point)
          → version_at l.versions x ≡ versions_after l.version (version_at l.initial.versions)
          (take l.item-index l.items) l.answers x;
      below : (x : Point) → version_at l.versions x ≤ l.version;
    }
