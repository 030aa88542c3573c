use Rattle.std.proofs.Common.{◌≡◌}
use Rattle.fdb_interval.specs.Breakpoints.{value_from}
use Rattle.fdb_owners.proofs.pieces.Pieces.history_by_walk.Given as goal

-- what is left of the walk gives the point's history
abbrev pub invariant-loop-begin : goal.invariant-loop-begin
invariant-loop-begin l =
    value_from l.history l.begin-iterator l.point ≡ value_from l.self.lowest l.self.breaks.entries l.point
