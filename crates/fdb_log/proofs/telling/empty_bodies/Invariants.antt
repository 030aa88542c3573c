use Rattle.std.proofs.Common.{◌≡◌, [], replicate}
use Rattle.fdb_log.proofs.telling.empty_bodies.Given as goal

abbrev pub invariant-loop-tag : goal.invariant-loop-tag
invariant-loop-tag l = l.bodies.items ≡ replicate l._tag []
