use Rattle.std.proofs.Common.{◌≡◌, ◌++◌, drop}
use Rattle.fdb_keys.specs.Removal.{without_range}
use Rattle.fdb_keys.proofs.removal.without_range.Given as goal

abbrev pub invariant-loop-held : goal.invariant-loop-held
invariant-loop-held l =
    l.left.items ++ without_range l.range (drop l.held-index l.ranges) ≡ without_range l.range l.ranges
