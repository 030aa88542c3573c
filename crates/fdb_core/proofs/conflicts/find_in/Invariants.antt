use Rattle.std.proofs.Common.{ℕ, List, ◌<◌}
use Rattle.fdb_keys.specs.Ranges.{Range}
use Rattle.fdb_core.specs.refinement.Conflicts.{IsSetAt}
use Rattle.fdb_core.proofs.conflicts.find_in.Given as goal

-- it is none of the places so far
abbrev pub invariant-loop-place : goal.invariant-loop-place
invariant-loop-place l =
    (p : ℕ) (set : List Range) → p < l.place → IsSetAt l.batch l.conflicts l.fn.id p set → ⊥
