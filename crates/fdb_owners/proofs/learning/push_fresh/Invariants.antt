use Rattle.std.proofs.Common.{◌≡◌, ◌++◌, map}
use Rattle.fdb_keys.specs.Points.{Point}
use Rattle.fdb_owners.specs.declared.history.History.{History}
use Rattle.fdb_owners.specs.Learning.{changed}
use Rattle.fdb_owners.proofs.learning.push_fresh.Given as goal

abbrev pub invariant-loop-point : goal.invariant-loop-point
invariant-loop-point l =
    l.fresh ++ map (λ (piece : Point × History). (piece.0, changed l.version l.owner piece.1)) l.point-iterator
    ≡ l.initial.fresh
    ++ map (λ (piece : Point × History). (piece.0, changed l.version l.owner piece.1)) l.initial.point-iterator
