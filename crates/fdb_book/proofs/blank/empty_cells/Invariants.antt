use Rattle.std.proofs.Common.{◌≡◌, length}
use Rattle.fdb_book.proofs.blank.empty_cells.Given as goal

abbrev pub invariant-loop-made : goal.invariant-loop-made
invariant-loop-made l = length l.cells.items ≡ l._made
