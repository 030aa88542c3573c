use Rattle.std.proofs.Common.{◌∙◌, sym, ap, subst}
use Rattle.fdb_storage.specs.VersionLists.{value_up_to, AreUpTo}
use Rattle.fdb_storage.proofs.VersionListLemmas.{value_up_to-between, value_up_to-newest}
use Rattle.fdb_storage.proofs.version_list.VersionList.value_at.Goals as goal

pub returns : goal.returns
returns c =
    c.newest_of.ensures
    ∙ sym (value_up_to-between c.args.version c.split_by.result.0.now c.split_by.result.1.now c.split_by.ensures.through
    c.split_by.ensures.above)
    ∙ ap (value_up_to c.args.version) (sym c.split_by.ensures.parts ∙ c.as_slice-2.ensures ∙ c.self.view_is)

pub returns-then-are_up_to : goal.returns-then-are_up_to
returns-then-are_up_to c =
    c.newest.ensures
    ∙ sym (value_up_to-newest c.args.version c.args.self.now
    (subst (AreUpTo c.args.version) (c.as_slice.ensures ∙ c.self.view_is) (c.are_up_to.ensures c.if-are_up_to.true)))
