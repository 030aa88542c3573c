use Rattle.std.proofs.Common.{◌≡◌, ◌≤◌, ◌-◌, length}
use Rattle.fdb_load.proofs.names.even_splits.Given as goal

-- where there is no piece, the loop ends before its first turn
abbrev pub invariant-loop-piece : goal.invariant-loop-piece
invariant-loop-piece l = (length l.splits ≡ l.piece - 1) × (l.piece - 1 ≤ l.pieces - 1)
