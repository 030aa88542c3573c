use Rattle.std.proofs.Common.{◌≡◌, ◌++◌}
use Rattle.std.specs.Slice.Iter.{iter_rest}
use Rattle.fdb_owners.specs.Learning.{moves_to}
use Rattle.fdb_owners.proofs.deciding.push_moves.Given as goal

abbrev pub invariant-loop-range : goal.invariant-loop-range
invariant-loop-range l = l.moves ++ moves_to l.to (iter_rest l.range-iterator) ≡ l.fn.moves ++ moves_to l.to l.ranges
