use Rattle.std.proofs.Common.{◌≡◌, drop}
use Rattle.fdb_keys.specs.RangeMaps.{without_points}
use Rattle.fdb_interval.proofs.breakpoints.remove_all.Given as goal

abbrev pub invariant-loop-key : goal.invariant-loop-key
invariant-loop-key l =
    without_points (drop l.key-index l.keys) l.breaks.entries ≡ without_points l.keys l.initial.breaks.entries
