use Rattle.std.proofs.Common.{◌≡◌, take}
use Rattle.fdb_proxy.specs.Conflicts.{joined_by}
use Rattle.fdb_proxy.proofs.conflicts.conflicts_of.Given as goal

abbrev pub invariant-loop-of : goal.invariant-loop-of
invariant-loop-of l = l.conflicts ≡ joined_by (take l.of-index l.found) l.count
