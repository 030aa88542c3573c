use Rattle.std.proofs.Common.{◌∙◌, sym, ap, subst, ℕ, ◌-◌, take}
use Rattle.fdb_storage.specs.VersionLists.{ends_at}
use Rattle.fdb_storage.proofs.VersionPutLemmas.{IsWithout, without-it, without-any}
use Rattle.fdb_storage.proofs.version_list.take_version.Goals as goal

pub returns-then-ends_at : goal.returns-then-ends_at
returns-then-ends_at c =
    let without =
    subst (IsWithout c.args.version c.args.values.now.items)
    (sym (c.truncate.ensures.items ∙ ap (λ (n : ℕ). take (n - 1) c.args.values.now.items) c.len-count.ensures.value))
    (without-it c.args.version c.args.values.now.items c.requires.list
    (ap (ends_at c.args.version) (sym c.as_slice.ensures) ∙ sym c.ends_at.ensures ∙ c.if-ends_at.true)) in
    record { list = without.list; below = without.below; before = without.before }

pub returns-else-ends_at-clause-below : goal.returns-else-ends_at-clause-below
returns-else-ends_at-clause-below c =
    (without-any c.args.version c.args.values.now.items c.requires.list c.requires.up_to
    (ap (ends_at c.args.version) (sym c.as_slice.ensures) ∙ sym c.ends_at.ensures ∙ c.if-ends_at.false)).below
