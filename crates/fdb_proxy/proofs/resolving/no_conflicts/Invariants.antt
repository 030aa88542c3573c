use Rattle.std.proofs.Common.{◌≡◌, [], replicate}
use Rattle.fdb_proxy.proofs.resolving.no_conflicts.Given as goal

abbrev pub invariant-loop-resolver : goal.invariant-loop-resolver
invariant-loop-resolver l = l.conflicts ≡ replicate l._resolver []
