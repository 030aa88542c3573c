use Rattle.std.proofs.Common.{◌<◌, All}
use Rattle.fdb_tests.proofs.owning.many_moves.Given as goal

abbrev pub invariant-loop-number : goal.invariant-loop-number
invariant-loop-number l = All (λ move. move.to < 2) l.moves
