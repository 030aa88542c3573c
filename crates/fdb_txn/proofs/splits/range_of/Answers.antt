use Rattle.std.proofs.Common.{◌≡◌, sym, ap₂, subst, true, false, None, Option, Result, []}
use Rattle.fdb_keys.specs.Answers.{Answers}
use Rattle.fdb_keys.specs.declared.refusal.Refusal.{Refusal}
use Rattle.fdb_keys.specs.Points.{Point, point_lt}
use Rattle.fdb_keys.specs.Ranges.{Range}
use Rattle.fdb_keys.specs.Texts.{is_bound, range_fault}
use Rattle.fdb_txn.specs.rules.Splits.{piece}
use Rattle.fdb_txn.proofs.rules.SplitsLemmas.{range-made, piece-order}
use Rattle.fdb_txn.proofs.splits.range_of.Goals as goal

-- a range of its two bounds is made, if there is memory
made : (result : Result Range Refusal) (begin end : Point) (range : Range) → is_bound begin ≡ true
    → is_bound end ≡ true → begin ≡ range.begin → end ≡ range.end
    → (is_bound range.begin ≡ true → point_lt range.end range.begin ≡ false)
    → Answers result (range_fault begin end) (λ it. it ≡ record { begin = begin; end = end })
    → Answers result None (λ it. it ≡ range)
made result begin end range from until begins ends order given =
    let same : record { begin = begin; end = end } ≡ range =
    ap₂ (λ (one other : Point). record { begin = one; end = other }) begins ends in
    let ordered : point_lt end begin ≡ false =
    subst (λ (one : Point). point_lt one begin ≡ false) (sym ends)
    (subst (λ (one : Point). point_lt range.end one ≡ false) (sym begins)
    (order (subst (λ (one : Point). is_bound one ≡ true) begins from))) in
    subst (λ (one : Range). Answers result None (λ it. it ≡ one)) same
    (subst (λ (fault : Option Refusal). Answers result fault (λ it. it ≡ record { begin = begin; end = end }))
    (range-made begin end from until ordered) given)

pub returns : goal.returns
returns c =
    made c.new.result c.piece_begin.result.now c.piece_end.result.now (piece c.args.splits.now c.args.number)
    c.piece_begin.ensures.legal c.piece_end.ensures.legal c.piece_begin.ensures.value c.piece_end.ensures.value
    (piece-order [] c.args.splits.now c.args.number c.requires.rising) c.new.ensures
