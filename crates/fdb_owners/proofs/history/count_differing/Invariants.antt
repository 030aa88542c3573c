use Rattle.std.proofs.Common.{◌≡◌, ◌≤◌, ◌+◌, length}
use Rattle.fdb_owners.specs.Histories.{differing}
use Rattle.fdb_owners.proofs.history.count_differing.Given as goal

abbrev pub invariant-loop-change : goal.invariant-loop-change
invariant-loop-change l =
    (differing l.first l.changes ≡ l.count + differing l.first l.rest) × (l.count + length l.rest ≤ length l.changes)

abbrev pub decreases-loop-change : goal.decreases-loop-change
decreases-loop-change l = length l.rest
