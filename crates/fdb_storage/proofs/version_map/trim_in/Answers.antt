use Rattle.std.proofs.Common.{◌∙◌, sym, subst}
use Rattle.fdb_storage.specs.VersionLists.{AreUpTo}
use Rattle.fdb_storage.proofs.version_map.trim_in.Goals as goal

pub returns-clause-up_to : goal.returns-clause-up_to
returns-clause-up_to c v up_to =
    subst (AreUpTo v) (sym (c.note_anew.ensures ∙ c.set_due.ensures)) (c.trim.ensures.up_to v up_to)
