use Rattle.std.proofs.Common.{◌∙◌, sym, ap, subst, List}
use Rattle.fdb_storage.specs.declared.version_list.VersionedValue.{VersionedValue}
use Rattle.fdb_storage.specs.VersionLists.{newest_of, same_value}
use Rattle.fdb_storage.proofs.VersionListLemmas.{other_value, same_value_decides}
use Rattle.fdb_storage.proofs.VersionPutLemmas.{HasPut, put-pushed, put-none}
use Rattle.fdb_storage.proofs.version_list.add_change.Goals as goal

pub returns-then-is_newest : goal.returns-then-is_newest
returns-then-is_newest c =
    let put =
    put-none c.args.version c.args.value c.args.values.now.items c.requires.list c.requires.below
    ((same_value_decides (newest_of c.args.values.now.items) c.args.value).0
    (ap (λ (values : List VersionedValue). same_value (newest_of values) c.args.value) (sym c.as_slice.ensures)
    ∙ sym c.is_newest.ensures ∙ c.if-is_newest.true)) in
    record { list = put.list; before = put.before; after = put.after; newest = put.newest; up_to = put.up_to }

pub returns : goal.returns
returns c =
    let put =
    subst (HasPut c.args.version c.args.value c.args.values.now.items) (sym c.in_ok-push.ensures.ok)
    (put-pushed c.args.version c.args.value c.args.values.now.items c.requires.list c.requires.below
    (other_value (newest_of c.args.values.now.items) c.args.value
    (ap (λ (values : List VersionedValue). same_value (newest_of values) c.args.value) (sym c.as_slice.ensures)
    ∙ sym c.is_newest.ensures ∙ c.if-is_newest.false))) in
    record { list = put.list; before = put.before; after = put.after; newest = put.newest; up_to = put.up_to }
