use Rattle.std.proofs.Common.{◌≡◌, ◌++◌}
use Rattle.fdb_interval.specs.Newer.{newer_pieces}
use Rattle.fdb_interval.proofs.newer.list_newer_by_keys.Given as goal

abbrev pub invariant-loop-point : goal.invariant-loop-point
invariant-loop-point l =
    l.pieces.items ++ newer_pieces l.version l.held l.here l.point-iterator l.range.end
    ≡ newer_pieces l.version l.initial.held l.initial.here l.initial.point-iterator l.range.end
