use Rattle.std.proofs.Common.{◌≡◌, drop}
use Rattle.fdb_keys.specs.RangeMaps.{without_points}
use Rattle.fdb_keys.proofs.range_map.remove_all.Given as goal

abbrev pub invariant-loop-begin : goal.invariant-loop-begin
invariant-loop-begin l =
    without_points (drop l.begin-index l.begins) l.ranges.entries ≡ without_points l.begins l.initial.ranges.entries
