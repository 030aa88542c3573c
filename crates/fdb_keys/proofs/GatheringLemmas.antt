-- Sorted ranges, joined where they overlap or touch, are apart and have the points of all.
use Rattle.std.proofs.Common.{◌≡◌, ◌∙◌, sym, ap, subst, refl, Bool, true, false, not, ◌&&◌, List, [], ◌∷◌, ◌+◌, suc}
use Rattle.std.proofs.Common.{get_or, length}
use Rattle.std.proofs.Common.{filter, ⊎_elim, arith, ℕ, zero, ◌<◌}
use Rattle.std.specs.List.{list_any, AllAdjacentBelow}
use Rattle.std.specs.List.Sorted.{IsSortedBy}
use Rattle.std.specs.Cmp.{IsStrictWeakOrder}
use Rattle.std.proofs.lemmas.Bool.{cases_Bool, and_parts, and_from, or_left, or_right, both_ways}
use Rattle.std.proofs.lemmas.Bool.{not-true, not-false, not_from_false, false_from_ne_true}
use Rattle.std.proofs.lemmas.Cmp.{nat_list_cmp_total}
use Rattle.std.proofs.lemmas.List.MinMax.{ranks_by}
use Rattle.std.proofs.lemmas.Map.Views.{any-filter_same}
use Rattle.fdb_keys.specs.Gathering.{begins_from, is_in_order}
use Rattle.fdb_keys.specs.Insertion.{lesser_point, joined_range, inserted}
use Rattle.fdb_keys.specs.Points.{Point, point_lt}
use Rattle.fdb_keys.specs.Ranges.{Range, in_range, in_set, is_empty_range, begins_after, is_apart}
use Rattle.fdb_keys.proofs.PointOrder.{lt_one_way, le_chain, lt_le_chain, le_lt_chain}
use Rattle.fdb_keys.proofs.InsertionLemmas.{lesser-right, below_lesser, some_joined, apart_from, apart_parts}
use Rattle.fdb_keys.proofs.InsertionLemmas.{in_range-empty, inserted-after, inserted-joined}

-- ---- what it is to be in order
pub order_parts : (range : Range) (ranges : List Range) → is_in_order (range ∷ ranges) ≡ true
    → (point_lt range.begin range.end ≡ true) × (begins_from range.begin ranges ≡ true) × (is_in_order ranges ≡ true)
order_parts range ranges ordered =
    let parts : (point_lt range.begin range.end && begins_from range.begin ranges ≡ true)
    × (is_in_order ranges ≡ true) = and_parts _ _ ordered in
    let of_range : (point_lt range.begin range.end ≡ true)
    × (begins_from range.begin ranges ≡ true) = and_parts _ _ parts.0 in
    (of_range.0, of_range.1, parts.1)

order_from : (range : Range) (ranges : List Range) → point_lt range.begin range.end ≡ true
    → begins_from range.begin ranges ≡ true → is_in_order ranges ≡ true
    → is_in_order (range ∷ ranges) ≡ true
order_from range ranges some from ordered =
    and_from (point_lt range.begin range.end && begins_from range.begin ranges) (is_in_order ranges)
    (and_from (point_lt range.begin range.end) (begins_from range.begin ranges) some from) ordered

begins_from-sooner : (x y : Point) (ranges : List Range) → point_lt y x ≡ false → begins_from y ranges ≡ true
    → begins_from x ranges ≡ true
begins_from-sooner x y [] sooner from = refl
begins_from-sooner x y (range ∷ ranges) sooner from =
    not_from_false _ (le_chain x y range.begin sooner (not-true _ from))

-- ---- one more range, which begins no sooner than the last one
module _ (last range : Range) (ranges : List Range) (ordered : is_in_order (last ∷ range ∷ ranges) ≡ true) where
  pub begins_no_sooner : point_lt range.begin last.begin ≡ false
  begins_no_sooner = not-true _ (order_parts last (range ∷ ranges) ordered).1

  ends_no_sooner : point_lt range.end last.begin ≡ false
  ends_no_sooner =
      lt_one_way last.begin range.end
      (le_lt_chain last.begin range.begin range.end begins_no_sooner
      (order_parts range ranges (order_parts last (range ∷ ranges) ordered).2).0)

  -- past the last one's end it is the last one
  pub inserted-next : point_lt last.end range.begin ≡ true
      → inserted last (range ∷ ranges) ≡ last ∷ inserted range ranges
  inserted-next after = inserted-after last range ranges ends_no_sooner after

  -- else the two are one
  pub inserted-extended : point_lt last.end range.begin ≡ false
      → inserted last (range ∷ ranges) ≡ inserted (joined_range last range) ranges
  inserted-extended reached = inserted-joined last range ranges ends_no_sooner reached

  pub order-next : is_in_order (range ∷ ranges) ≡ true
  order-next = (order_parts last (range ∷ ranges) ordered).2

  pub order-extended : is_in_order (joined_range last range ∷ ranges) ≡ true
  order-extended =
      let of_range = order_parts range ranges order-next in
      order_from (joined_range last range) ranges
      (some_joined last range (order_parts last (range ∷ ranges) ordered).0)
      (begins_from-sooner (lesser_point last.begin range.begin) range.begin ranges
      (lesser-right last.begin range.begin) of_range.1)
      of_range.2

-- ---- all of them
begins_after-order : (x : Point) (last : Range) (ranges : List Range) → is_in_order (last ∷ ranges) ≡ true
    → point_lt x last.begin ≡ true → begins_after x (inserted last ranges) ≡ true
unfolding inserted
begins_after-order x last [] ordered before = before
begins_after-order x last (range ∷ ranges) ordered before =
    ⊎_elim
    (λ after. ap (begins_after x) (inserted-next last range ranges ordered after) ∙ before)
    (λ reached.
    ap (begins_after x) (inserted-extended last range ranges ordered reached)
    ∙ begins_after-order x (joined_range last range) ranges (order-extended last range ranges ordered)
    (below_lesser x last.begin range.begin before
    (lt_le_chain x last.begin range.begin before (begins_no_sooner last range ranges ordered))))
    (cases_Bool (point_lt last.end range.begin))

pub apart-order : (first : Range) (ranges : List Range) → is_in_order (first ∷ ranges) ≡ true
    → is_apart (inserted first ranges) ≡ true
unfolding inserted
apart-order first [] ordered = apart_from first [] (order_parts first [] ordered).0 refl refl
apart-order first (range ∷ ranges) ordered =
    ⊎_elim
    (λ after.
    ap is_apart (inserted-next first range ranges ordered after)
    ∙ apart_from first (inserted range ranges) (order_parts first (range ∷ ranges) ordered).0
    (begins_after-order first.end range ranges (order-next first range ranges ordered) after)
    (apart-order range ranges (order-next first range ranges ordered)))
    (λ reached.
    ap is_apart (inserted-extended first range ranges ordered reached)
    ∙ apart-order (joined_range first range) ranges (order-extended first range ranges ordered))
    (cases_Bool (point_lt first.end range.begin))

-- ---- putting ranges in order
-- one range begins before the other one
abbrev pub begins_sooner : Range → Range → Bool
begins_sooner a b = point_lt a.begin b.begin

pub order_of_begins : IsStrictWeakOrder begins_sooner
unfolding point_lt
order_of_begins = ranks_by nat_list_cmp_total (λ (range : Range). range.begin)

-- of ranges of which none is empty
none_first : (range : Range) (ranges : List Range) → list_any is_empty_range (range ∷ ranges) ≡ false
    → (point_lt range.begin range.end ≡ true) × (list_any is_empty_range ranges ≡ false)
none_first range ranges none = (
  not-false _ (false_from_ne_true _ (λ empty. both_ways _ none (or_left _ _ empty))),
  false_from_ne_true _ (λ there. both_ways _ none (or_right _ _ there)),
)

pub order-sorted : (ranges : List Range) → IsSortedBy begins_sooner ranges → list_any is_empty_range ranges ≡ false
    → is_in_order ranges ≡ true
order-sorted [] sorted none = refl
order-sorted (range ∷ []) sorted none = order_from range [] (none_first range [] none).0 refl refl
order-sorted (range ∷ next ∷ ranges) sorted none =
    let parts = none_first range (next ∷ ranges) none in
    order_from range (next ∷ ranges) parts.0 (not_from_false _ (sorted 0 range (omega arith) (omega arith)))
    (order-sorted (next ∷ ranges)
    (λ k d low within.
    subst (λ n. begins_sooner (get_or (range ∷ next ∷ ranges) n d) (get_or (next ∷ ranges) k d) ≡ false)
    {x = suc k + 1} {y = suc (k + 1)} (omega arith) (sorted (suc k) d (omega arith) (omega arith)))
    parts.1)

-- the empty ranges left out
abbrev pub has_point : Range → Bool
has_point range = not (is_empty_range range)

pub none-filter : (ranges : List Range) → list_any is_empty_range (filter has_point ranges) ≡ false
none-filter ranges = any-filter_same is_empty_range has_point false (λ range empty. ap not empty) ranges

pub in_set-filter : (ranges : List Range) (x : Point) → in_set (filter has_point ranges) x ≡ in_set ranges x
in_set-filter ranges x =
    any-filter_same (λ range. in_range range x) has_point true
    (λ range inside. not_from_false _ (false_from_ne_true _ (λ empty.
    both_ways _ (in_range-empty range x empty) inside))) ranges

-- ---- ranges of which each ends before the next one begins
abbrev pub ends_before : Range → Range → Bool
ends_before range next = point_lt range.end next.begin

pub apart-neighbours : (ranges : List Range) → is_in_order ranges ≡ true
    → AllAdjacentBelow (λ range next. true ≡ ends_before range next) ranges (length ranges)
    → is_apart ranges ≡ true
apart-neighbours [] ordered each = refl
apart-neighbours (range ∷ []) ordered each = apart_from range [] (order_parts range [] ordered).0 refl refl
apart-neighbours (range ∷ next ∷ ranges) ordered each =
    let parts = order_parts range (next ∷ ranges) ordered in
    apart_from range (next ∷ ranges) parts.0 (sym (each 0 range (omega arith)))
    (apart-neighbours (next ∷ ranges) parts.2
    (λ k d within.
    subst (λ n. true ≡ ends_before (get_or (next ∷ ranges) k d) (get_or (range ∷ next ∷ ranges) n d))
    {x = suc k + 1} {y = suc (k + 1)} (omega arith) (each (suc k) d (omega arith))))

-- where one of them reaches the next one, they aren't
pub apart-reached : (ranges : List Range) (k : ℕ) → k + 1 < length ranges
    → ((d : Range) → false ≡ ends_before (get_or ranges k d) (get_or ranges (k + 1) d)) → is_apart ranges ≡ false
apart-reached [] k within reached = absurd (omega (arith, within))
apart-reached (range ∷ []) k within reached = absurd (omega (arith, within))
apart-reached (range ∷ next ∷ ranges) zero within reached =
    false_from_ne_true _ (λ apart.
    both_ways _ (sym (reached range)) (apart_parts range (next ∷ ranges) apart).1)
apart-reached (range ∷ next ∷ ranges) (suc k) within reached =
    false_from_ne_true _ (λ apart.
    both_ways _
    (apart-reached (next ∷ ranges) k (omega (arith, within))
    (λ d.
    subst (λ n. false ≡ ends_before (get_or (next ∷ ranges) k d) (get_or (range ∷ next ∷ ranges) n d))
    {x = suc k + 1} {y = suc (k + 1)} (omega arith) (reached d)))
    (apart_parts range (next ∷ ranges) apart).2)
