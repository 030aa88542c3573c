use Rattle.std.proofs.Common.{◌≡◌, ◌∙◌, sym, ap, subst, refl, get_or, List, []}
use Rattle.std.proofs.lemmas.List.{get_or_at}
use Rattle.fdb_resolver.specs.declared.part.Item.{Item}
use Rattle.fdb_proxy.specs.Held.{IsItemWith}
use Rattle.fdb_proxy.proofs.HeldLemmas.{ends-held}
use Rattle.fdb_proxy.proofs.parting.hold.Goals as goal

pub returns : goal.returns
returns c held before below ends =
    let opened = c.in_ok-index.ensures.answers held before below ends in
    let same : c.index_mut.result.now ≡ opened.0 =
    c.index_mut.ensures.value
    ∙ ap (λ (list : List Item). get_or list c.in_ok-index.index c.index_mut.result.now) opened.1
    ∙ get_or_at before opened.0 [] c.index_mut.result.now c.in_ok-index.index (sym opened.2) in
    ends-held c.args.place c.args.reading held before c.open_item.new.items.items _ c.in_ok-index.index opened.0
    c.add_to_item.new.item c.args.kind c.args.part.ranges c.requires.some opened.1 opened.2 refl
    (c.in_ok-add_to_item.ensures c.args.place c.args.reading held
    (subst (IsItemWith c.args.place c.args.reading held) (sym same) opened.3))
