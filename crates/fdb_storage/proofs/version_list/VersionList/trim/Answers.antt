use Rattle.std.proofs.Common.{◌∙◌, sym, ap, subst, ℕ, length, List}
use Rattle.fdb_storage.specs.declared.version_list.VersionedValue.{VersionedValue}
use Rattle.fdb_storage.specs.VersionLists.{value_up_to, kept_from, IsVersionList, AreUpTo}
use Rattle.fdb_storage.proofs.VersionTrimLemmas.{trimmed}
use Rattle.fdb_storage.proofs.version_list.VersionList.trim.Goals as goal

pub invariant_of-self : goal.invariant_of-self
invariant_of-self c =
    let left =
    trimmed c.args.floor c.count_newest.result c.self.inside.values.items c.split_by.result.0.now
    c.split_by.result.1.now c.self.invariant (sym c.as_slice.ensures
    ∙ c.split_by.ensures.parts) c.split_by.ensures.through
    c.split_by.ensures.above c.count_newest.ensures.value c.count_newest.ensures.within in
    subst IsVersionList (sym c.drop_first.ensures) left.list

pub returns-clause-kept : goal.returns-clause-kept
returns-clause-kept c v from =
    let left =
    trimmed c.args.floor c.count_newest.result c.self.inside.values.items c.split_by.result.0.now
    c.split_by.result.1.now c.self.invariant (sym c.as_slice.ensures
    ∙ c.split_by.ensures.parts) c.split_by.ensures.through
    c.split_by.ensures.above c.count_newest.ensures.value c.count_newest.ensures.within in
    ap (value_up_to v) c.drop_first.ensures ∙ left.kept v from ∙ ap (value_up_to v) c.self.view_is

pub returns-clause-fewest : goal.returns-clause-fewest
returns-clause-fewest c high from within =
    let left =
    trimmed c.args.floor c.count_newest.result c.self.inside.values.items c.split_by.result.0.now
    c.split_by.result.1.now c.self.invariant (sym c.as_slice.ensures
    ∙ c.split_by.ensures.parts) c.split_by.ensures.through
    c.split_by.ensures.above c.count_newest.ensures.value c.count_newest.ensures.within in
    ap length c.drop_first.ensures
    ∙ left.fewest high from (subst (AreUpTo high) (sym c.self.view_is) within)
    ∙ ap (λ (values : List VersionedValue). kept_from (λ (v : ℕ). value_up_to v values) c.args.floor high)
    c.self.view_is
