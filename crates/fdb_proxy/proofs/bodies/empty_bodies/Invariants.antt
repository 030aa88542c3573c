use Rattle.std.proofs.Common.{◌≡◌, [], replicate}
use Rattle.fdb_proxy.proofs.bodies.empty_bodies.Given as goal

abbrev pub invariant-loop-log : goal.invariant-loop-log
invariant-loop-log l = l.bodies.items ≡ replicate l._log []
