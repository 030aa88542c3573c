use Rattle.std.proofs.Common.{◌≡◌, ◌∙◌, sym, ap, ℕ, Bool, not, nat_eq, nat_lt}
use Rattle.std.specs.Prelude.{◌&&◌}
use Rattle.fdb_storage.specs.KeyPages.{lent_keys, first_more}
use Rattle.fdb_storage.proofs.LentLemmas.{lent-cut, lent-length}
use Rattle.fdb_storage.proofs.PagesLemmas.{page-is, legal-found, looked_for, cut_by}
use Rattle.fdb_storage.proofs.paging.page_of.Goals as goal
use Rattle.fdb_storage.proofs.paging.page_of.Goals.{After-as_slice}
use Rattle.fdb_storage.proofs.paging.page_of.Goals.{then-reverse+in_ok-found, else-reverse+in_ok-found-2}

found-is : (c : After-as_slice) → lent_keys c.if-reverse.found.items
    ≡ first_more c.args.limit
    (looked_for c.args.version c.args.range.now c.args.reverse c.args.keys.now.entries)
found-is c =
    let aim = λ (is_reverse : Bool). first_more c.args.limit
    (looked_for c.args.version c.args.range.now is_reverse c.args.keys.now.entries) in
    elim c.if-reverse.branch [
      | then-reverse+in_ok-found w ↦
          ap (λ found. lent_keys found.items) w.found-is ∙ w.in_ok-found.ensures ∙ sym (ap aim w.if-reverse.true)
      | else-reverse+in_ok-found-2 w ↦
          ap (λ found. lent_keys found.items) w.found-is ∙ w.in_ok-found-2.ensures ∙ sym (ap aim w.if-reverse.false)
    ]

left-is : (c : After-as_slice) → lent_keys c.as_slice.result.now
    ≡ cut_by c.args.limit (lent_keys c.if-reverse.found.items) c.cut-more.result
left-is c =
    ap lent_keys (c.as_slice.ensures.value ∙ c.cut-more.ensures.items)
    ∙ lent-cut c.args.limit c.if-reverse.found.items c.cut-more.result

pub copies-requires : goal.copies-requires
copies-requires c =
    let here = (goal.at.copies-requires c).After-as_slice in
    legal-found c.args.version c.args.limit c.args.range.now c.args.reverse c.cut-more.result c.args.keys.now.entries
    (lent_keys c.if-reverse.found.items) (lent_keys c.as_slice.result.now) c.requires (found-is here) (left-is here)

pub returns-clause-page : goal.returns-clause-page
returns-clause-page c =
    let here = (goal.at.returns-clause-page c).After-as_slice in
    page-is c.args.version c.args.limit c.args.range.now c.args.reverse c.args.keys.now.entries
    (lent_keys c.if-reverse.found.items) (lent_keys c.as_slice.result.now) c.cut-more.result c.in_ok-pairs.pairs
    (found-is here) (left-is here)
    (c.cut-more.ensures.more
    ∙ ap (λ (count : ℕ). not (nat_eq c.args.limit 0) && nat_lt c.args.limit count)
    (sym (lent-length c.if-reverse.found.items)))
    c.in_ok-pairs.ensures
