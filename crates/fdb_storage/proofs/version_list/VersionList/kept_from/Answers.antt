use Rattle.std.proofs.Common.{◌≡◌, ◌∙◌, sym, ap, subst, ℕ, ◌+◌, length, List, ◌++◌}
use Rattle.fdb_storage.specs.declared.version_list.VersionedValue.{VersionedValue}
use Rattle.fdb_storage.specs.VersionLists.{value_up_to, kept_from, AreUpTo, IsVersionList}
use Rattle.fdb_storage.proofs.VersionCountLemmas.{kept-counted}
use Rattle.fdb_storage.proofs.version_list.VersionList.kept_from.Goals as goal

pub returns : goal.returns
returns c high from within =
    let older = c.split_by.result.0.now in
    let newer = c.split_by.result.1.now in
    let are : c.self.inside.values.items ≡ older ++ newer = sym c.as_slice.ensures ∙ c.split_by.ensures.parts in
    ap (λ (n : ℕ). length newer + n) c.count_newest.ensures.value
    ∙ kept-counted older newer c.args.floor high (subst IsVersionList are c.self.invariant) c.split_by.ensures.through
    c.split_by.ensures.above (subst (AreUpTo high) (sym c.self.view_is ∙ are) within)
    ∙ ap (λ (values : List VersionedValue). kept_from (λ (v : ℕ). value_up_to v values) c.args.floor high)
    (sym are ∙ c.self.view_is)
