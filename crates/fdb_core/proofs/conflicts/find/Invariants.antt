use Rattle.std.proofs.Common.{ℕ, List, ◌≤◌, ◌+◌}
use Rattle.fdb_keys.specs.Ranges.{Range}
use Rattle.fdb_core.specs.refinement.Conflicts.{IsSetOf}
use Rattle.fdb_core.proofs.conflicts.find.Given as goal

-- it is in none of the last entries so far
abbrev pub invariant-loop-behind : goal.invariant-loop-behind
invariant-loop-behind l =
    (n p : ℕ) (set : List Range) → l.count ≤ n + l.behind → IsSetOf l.book l.conflicts l.fn.id n p set → ⊥
