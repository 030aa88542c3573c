use Rattle.std.proofs.Common.{◌∙◌}
use Rattle.fdb_storage.proofs.StampedLemmas.{any-messages}
use Rattle.fdb_storage.proofs.stamped.any_has_stamped.Goals as goal

pub returns : goal.returns
returns c = c.some_have_stamped.ensures ∙ any-messages c.args.peeks.now
