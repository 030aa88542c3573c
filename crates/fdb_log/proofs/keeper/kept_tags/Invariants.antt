use Rattle.std.proofs.Common.{◌≡◌, take}
use Rattle.fdb_log.specs.Messages.{is_kept}
use Rattle.fdb_log.specs.Waiting.{kept_among}
use Rattle.fdb_log.proofs.keeper.kept_tags.Given as goal

abbrev pub invariant-loop-tag : goal.invariant-loop-tag
invariant-loop-tag l =
    l.tags ≡ kept_among (is_kept l.keeper.log l.keeper.logs l.keeper.tags) (take l.tag-index l.tag-items)
