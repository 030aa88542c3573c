use Rattle.std.proofs.Common.{◌≡◌, ◌∙◌, ap, ◌<◌, ◌≤◌, length, get_or, None, rules, arith}
use Rattle.std.specs.List.{prefix_len}
use Rattle.std.proofs.lemmas.List.{get_or_default}
use Rattle.fdb_owners.specs.declared.parts.Owned.{Owned}
use Rattle.fdb_owners.proofs.PartsLemmas.{below, grown-found, fresh-found}
use Rattle.fdb_owners.proofs.AnswersLemmas.{answers-also}
use Rattle.fdb_owners.proofs.parts.add_part.Goals as goal
use Rattle.fdb_owners.proofs.parts.add_part.Goals.{else-place-len-via-then-place-len+else-index-resolver}
use Rattle.fdb_owners.proofs.parts.add_part.Goals.{else-place-len-via-else-place-len}

pub returns-then-index-resolver : goal.returns-then-index-resolver
returns-then-index-resolver c =
    let parts = c.args.parts.now.items in
    let some = c.index.result.now in
    let counted : c.count_below-place.result ≡ prefix_len (below c.args.resolver) parts = search rules in
    let within : c.count_below-place.result < length parts = search rules in
    let same : (get_or parts c.count_below-place.result some).resolver ≡ c.args.resolver = search rules in
    answers-also c.add_at.result None _ _
    (λ given added. added some ∙ grown-found c.args.resolver c.args.range.now parts c.count_below-place.result some
    counted
    within same) c.add_at.ensures

pub returns : goal.returns
returns c =
    let parts = c.args.parts.now.items in
    let counted : c.count_below-place.result ≡ prefix_len (below c.args.resolver) parts = search rules in
    let apart : (d : Owned) → c.count_below-place.result < length parts
    → (get_or parts c.count_below-place.result d).resolver ≡ c.args.resolver → ⊥ =
    elim c.else-place-len.branch [
      | else-place-len-via-then-place-len+else-index-resolver w ↦ λ d within same.
          w.if-index-resolver.false
          (ap (λ (part : Owned). part.resolver) (w.index.ensures
          ∙ get_or_default parts c.count_below-place.result w.index.result.now d within)
          ∙ same)
      | else-place-len-via-else-place-len w ↦ λ d within same.
          let past : length parts ≤ c.count_below-place.result = search rules in
          absurd (omega (arith, past, within))
    ] in
    answers-also c.insert_at.result None _ _
    (λ given put. put ∙ fresh-found c.args.resolver c.args.range.now parts c.count_below-place.result counted apart)
    c.insert_at.ensures
