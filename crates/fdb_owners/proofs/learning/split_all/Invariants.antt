use Rattle.std.proofs.Common.{drop}
use Rattle.std.specs.List.{AllByRecursion}
use Rattle.fdb_txn.specs.declared.entry.Move.{Move}
use Rattle.fdb_owners.specs.declared.pieces.Pieces.{Pieces}
use Rattle.fdb_owners.specs.Learning.{IsSplit, HasBounds}
use Rattle.fdb_owners.proofs.learning.split_all.Given as goal

abbrev pub invariant-loop-one_move : goal.invariant-loop-one_move
invariant-loop-one_move l = record {
  split : IsSplit l.fn.pieces l.pieces;
  bounds : (others : Pieces) → IsSplit l.pieces others
      → AllByRecursion (λ (move : Move). HasBounds others move.range) (drop l.one_move-index l.moves)
      → AllByRecursion (λ (move : Move). HasBounds others move.range) l.moves;
}
