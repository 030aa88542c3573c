use Rattle.std.proofs.Common.{◌≤◌, drop, length}
use Rattle.fdb_owners.specs.Learning.{DecideSoFar}
use Rattle.fdb_owners.proofs.deciding.decisive_moves.Given as goal

abbrev pub invariant-loop-left : goal.invariant-loop-left
invariant-loop-left l = record {
  within : l.left ≤ length l.moves;
  decide : DecideSoFar (drop l.left l.moves) l.covered l.decisive;
}

abbrev pub decreases-loop-left : goal.decreases-loop-left
decreases-loop-left l = l.left
