use Rattle.std.proofs.Common.{length}
use Rattle.fdb_log.specs.Messages.{is_kept}
use Rattle.fdb_log.specs.Waiting.{kept_among}
use Rattle.fdb_log.proofs.AddedLemmas.{AreLeft}
use Rattle.fdb_log.proofs.telling.add_sent.Given as goal

abbrev pub invariant-loop-tag : goal.invariant-loop-tag
invariant-loop-tag l =
    AreLeft (l.sent.place, l.sent.mutation)
    (kept_among (is_kept l.fn.keeper.log l.fn.keeper.logs l.fn.keeper.tags) l.sent.tags)
    l.left l.initial.bodies.items l.bodies.items

abbrev pub decreases-loop-tag : goal.decreases-loop-tag
decreases-loop-tag l = length l.left
