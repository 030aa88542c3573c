use Rattle.std.proofs.Common.{◌∙◌, sym}
use Rattle.fdb_storage.proofs.VersionSearchLemmas.{up_to-by_last}
use Rattle.fdb_storage.proofs.version_list.are_up_to.Goals as goal

pub returns : goal.returns
returns c is = up_to-by_last c.args.version c.args.values.now c.requires (sym c.is_last_up_to.ensures ∙ is)
