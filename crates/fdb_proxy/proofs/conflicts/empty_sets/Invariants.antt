use Rattle.std.proofs.Common.{◌≡◌, [], replicate}
use Rattle.fdb_proxy.proofs.conflicts.empty_sets.Given as goal

abbrev pub invariant-loop-place : goal.invariant-loop-place
invariant-loop-place l = l.sets ≡ replicate l._place []
