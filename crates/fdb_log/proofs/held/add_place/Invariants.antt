use Rattle.std.proofs.Common.{length}
use Rattle.fdb_log.proofs.AddedLemmas.{AreLeft}
use Rattle.fdb_log.proofs.held.add_place.Given as goal

abbrev pub invariant-loop-tag : goal.invariant-loop-tag
invariant-loop-tag l = AreLeft l.place l.tags l.left l.initial.places.items l.places.items

abbrev pub decreases-loop-tag : goal.decreases-loop-tag
decreases-loop-tag l = length l.left
