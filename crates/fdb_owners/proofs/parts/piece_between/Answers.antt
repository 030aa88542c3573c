use Rattle.std.proofs.Common.{◌≡◌, ◌∙◌, subst, true, None, Option, Result}
use Rattle.fdb_keys.specs.Answers.{Answers}
use Rattle.fdb_keys.specs.declared.refusal.Refusal.{Refusal}
use Rattle.fdb_keys.specs.Points.{Point, point_lt}
use Rattle.fdb_keys.specs.Ranges.{Range}
use Rattle.fdb_keys.specs.Texts.{is_bound, range_fault}
use Rattle.fdb_keys.proofs.Exports.{lt_one_way}
use Rattle.fdb_txn.proofs.Exports.{range-made}
use Rattle.fdb_owners.proofs.parts.piece_between.Goals as goal

-- a range of two bounds is made by their texts, if there is memory
made : (result : Result Range Refusal) (begin end begin_text end_text : Point) → is_bound begin ≡ true
    → is_bound end ≡ true → point_lt begin end ≡ true → begin_text ≡ begin → end_text ≡ end
    → Answers result (range_fault begin_text end_text) (λ it. it ≡ record { begin = begin_text; end = end_text })
    → Answers result None (λ it. it ≡ record { begin = begin; end = end })
made result begin end begin_text end_text from until some begins ends given =
    let by_bounds : Answers result (range_fault begin end) (λ it. it ≡ record { begin = begin; end = end }) =
    subst (λ (y : Point). Answers result (range_fault begin y) (λ it. it ≡ record { begin = begin; end = y })) ends
    (subst (λ (x : Point). Answers result (range_fault x end_text) (λ it. it ≡ record { begin = x; end = end_text }))
    begins given) in
    subst (λ (fault : Option Refusal). Answers result fault (λ it. it ≡ record { begin = begin; end = end }))
    (range-made begin end from until (lt_one_way begin end some)) by_bounds

pub returns : goal.returns
returns c =
    made c.new.result c.args.begin.now c.args.end.now c.as_slice.result.now c.as_slice-2.result.now c.requires.begin
    c.requires.end c.requires.order (c.as_slice.ensures ∙ c.text.ensures.value)
    (c.as_slice-2.ensures ∙ c.text-2.ensures.value) c.new.ensures
