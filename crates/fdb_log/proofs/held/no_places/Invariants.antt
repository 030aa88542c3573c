use Rattle.std.proofs.Common.{◌≡◌, [], replicate}
use Rattle.fdb_log.proofs.held.no_places.Given as goal

abbrev pub invariant-loop-tag : goal.invariant-loop-tag
invariant-loop-tag l = l.places.items ≡ replicate l._tag []
