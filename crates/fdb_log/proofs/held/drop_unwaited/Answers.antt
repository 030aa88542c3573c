use Rattle.std.proofs.Common.{◌∙◌, ℕ}
use Rattle.std.specs.Prelude.{slice_get}
use Rattle.std.specs.Option.{unwrap_or}
use Rattle.fdb_log.specs.Waiting.{waits}
use Rattle.fdb_log.proofs.PlacesLemmas.{unwaited-dropped, waited-stays}
use Rattle.fdb_log.proofs.held.drop_unwaited.Goals as goal

pub returns-then-is_unwaited : goal.returns-then-is_unwaited
returns-then-is_unwaited c =
    c.remove-dropped.ensures.entries
    ∙ unwaited-dropped (waits (λ (tag : ℕ). unwrap_or (slice_get c.args.popped.now tag) 0)) c.args.place
    c.args.tags.now.entries c.if-is_unwaited.ensures.rising c.if-is_unwaited.ensures.test

pub returns-else-is_unwaited : goal.returns-else-is_unwaited
returns-else-is_unwaited c =
    waited-stays (waits (λ (tag : ℕ). unwrap_or (slice_get c.args.popped.now tag) 0)) c.args.place
    c.args.tags.now.entries c.if-is_unwaited.ensures.rising c.if-is_unwaited.ensures.test
