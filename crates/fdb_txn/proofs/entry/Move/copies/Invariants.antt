use Rattle.std.proofs.Common.{◌≡◌, take}
use Rattle.fdb_txn.proofs.entry.Move.copies.Given as goal

abbrev pub invariant-loop-one_move : goal.invariant-loop-one_move
invariant-loop-one_move l = l.copies ≡ take l.one_move-index l.moves
