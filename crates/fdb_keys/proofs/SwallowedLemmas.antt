-- A range that is inserted into a sorted list swallows those that begin within it, where no other one touches it.
use Rattle.std.proofs.Common.{◌≡◌, ◌∙◌, sym, ap, refl, Bool, true, false, not, ◌&&◌, ⊎_elim, List, [], ◌∷◌}
use Rattle.std.specs.List.{AllByRecursion, filter}
use Rattle.std.proofs.lemmas.Bool.{and_right, and_from, both_ways, cond-true, cond-false, not_from_true, not_from_false}
use Rattle.fdb_keys.specs.Insertion.{lesser_point, greater_point, joined_range, inserted}
use Rattle.fdb_keys.specs.Points.{Point, point_lt}
use Rattle.fdb_keys.specs.Ranges.{Range, is_apart}
use Rattle.fdb_keys.proofs.PointOrder.{lt_one_way, lt_chain, lt_le_chain}
use Rattle.fdb_keys.proofs.InsertionLemmas.{apart_parts, begins_after-sooner, inserted-after, inserted-joined}
use Rattle.fdb_keys.proofs.ApartLemmas.{all_after}
use Rattle.fdb_keys.proofs.PlaceLemmas.{inserted-apart}
use Rattle.fdb_keys.proofs.TouchedLemmas.{Fits}

-- the point comes after the range's begin, and by its end
abbrev pub is_within : Range → Point → Bool
is_within range x = point_lt range.begin x && not (point_lt range.end x)

-- the other ranges begin after the first one's begin
pub after_by : (x : Point) (first : Range) (ranges : List Range) → first.begin ≡ x → is_apart (first ∷ ranges) ≡ true
    → AllByRecursion (λ range. point_lt x range.begin ≡ true) ranges
after_by x first ranges begins apart =
    let parts = apart_parts first ranges apart in
    all_after x ranges parts.2
    (begins_after-sooner x first.end ranges (ap (λ y. point_lt y first.end) (sym begins) ∙ parts.0) parts.1)

joined-within : (range other : Range) → point_lt other.begin range.begin ≡ false → point_lt range.end other.end ≡ false
    → joined_range range other ≡ range
joined-within range other begins ends =
    let of_begin : lesser_point range.begin other.begin ≡ range.begin = cond-false _ _ _ begins in
    let of_end : greater_point range.end other.end ≡ range.end = cond-false _ _ _ ends in
    λ i. record { begin = of_begin i; end = of_end i }

-- a range that fits, and begins sooner, ends before the begin
pub before_from : (range other : Range) → point_lt range.begin range.end ≡ true
    → point_lt other.begin range.begin ≡ true → Fits range other → point_lt other.end range.begin ≡ true
before_from range other some sooner fits =
    ⊎_elim (λ before. before)
    (⊎_elim
    (λ within. absurd (both_ways _ within.0 sooner))
    (λ later. absurd
    (both_ways _ (lt_one_way other.begin range.end (lt_chain other.begin range.begin range.end sooner some)) later)))
    fits

-- one that fits, and begins with it, is joined into it
pub joined-same : (range other : Range) → other.begin ≡ range.begin → point_lt other.end range.begin ≡ false
    → point_lt range.end other.begin ≡ false → Fits range other → joined_range range other ≡ range
joined-same range other begins reaches reached fits =
    ⊎_elim (λ before. absurd (both_ways _ reaches before))
    (⊎_elim
    (λ within. joined-within range other within.0 within.1)
    (λ later. absurd (both_ways _ reached later)))
    fits

keep_all : (range : Range) (ranges : List Range) → AllByRecursion (λ r. point_lt range.end r.begin ≡ true) ranges
    → filter (λ r. not (is_within range r.begin)) ranges ≡ ranges
keep_all range [] after = refl
keep_all range (next ∷ ranges) after =
    cond-true _ _ _ (not_from_false _ (and_right _ _ (not_from_true _ after.0)))
    ∙ ap (λ (l : List Range). next ∷ l) (keep_all range ranges after.1)

-- what begins after the range's begin, and fits, is swallowed by it or stays
pub inserted-swallows : (range : Range) (ranges : List Range) → is_apart ranges ≡ true
    → AllByRecursion (λ r. point_lt range.begin r.begin ≡ true) ranges → AllByRecursion (Fits range) ranges
    → inserted range ranges ≡ range ∷ filter (λ r. not (is_within range r.begin)) ranges
unfolding inserted
inserted-swallows range [] apart after fits = refl
inserted-swallows range (next ∷ ranges) apart after fits =
    let parts = apart_parts next ranges apart in
    let reaches : point_lt next.end range.begin ≡ false =
    lt_one_way range.begin next.end (lt_chain range.begin next.begin next.end after.0 parts.0) in
    let put = λ (l : List Range). range ∷ l in
    ⊎_elim
    (λ before. absurd (both_ways _ reaches before))
    (⊎_elim
    (λ within.
    let reached : point_lt range.end next.begin ≡ false =
    lt_one_way next.begin range.end (lt_le_chain next.begin next.end range.end parts.0 within.1) in
    inserted-joined range next ranges reaches reached
    ∙ ap (λ (r : Range). inserted r ranges) (joined-within range next within.0 within.1)
    ∙ inserted-swallows range ranges parts.2 after.1 fits.1
    ∙ sym (ap put (cond-false _ _ _ (not_from_true _ (and_from _ _ after.0 (not_from_false _ reached))))))
    (λ later.
    inserted-after range next ranges reaches later
    ∙ ap put (inserted-apart next ranges apart)
    ∙ sym (ap put (keep_all range (next ∷ ranges) (all_after range.end (next ∷ ranges) apart later)))))
    fits.0
