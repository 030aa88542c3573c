-- The points that two ranges have in common are those of one range.
use Rattle.std.proofs.Common.{◌≡◌, ◌∙◌, sym, ap, true, false, not, ◌&&◌, ⊎_elim}
use Rattle.std.specs.Prelude.{Some, None}
use Rattle.std.proofs.lemmas.Bool.{cases_Bool, and_parts, and_from, not_from_false, both_ways, cond-true, cond-false}
use Rattle.std.proofs.lemmas.Bool.{false_from_ne_true}
use Rattle.std.proofs.lemmas.Bool.Decides.{same_from_decides}
use Rattle.fdb_keys.specs.Points.{Point, point_lt}
use Rattle.fdb_keys.specs.Ranges.{Range, in_range, ranges_meet}
use Rattle.fdb_keys.specs.Texts.{is_bound}
use Rattle.fdb_keys.specs.Insertion.{lesser_point, greater_point}
use Rattle.fdb_keys.specs.Clipping.{common_range, clipped_range, in_clipped}
use Rattle.fdb_keys.proofs.PointOrder.{lt_one_way, le_chain, lt_le_chain}
use Rattle.fdb_keys.proofs.RangesLemmas.{in_range_parts, in_range_from, meet_from_common}
use Rattle.fdb_keys.proofs.InsertionLemmas.{HasLegalBounds, lesser-left, lesser-right, greater-left, greater-right}
use Rattle.fdb_keys.proofs.InsertionLemmas.{below_lesser, greater_below, is_bound-lesser, is_bound-greater}

-- the greater of two points is no later than what both are no later than
pub greater_by : (x y z : Point) → point_lt z x ≡ false → point_lt z y ≡ false → point_lt z (greater_point x y) ≡ false
greater_by x y z by_x by_y =
    ⊎_elim
    (λ before. ap (point_lt z) (cond-true _ _ _ before) ∙ by_y)
    (λ after. ap (point_lt z) (cond-false _ _ _ after) ∙ by_x)
    (cases_Bool (point_lt x y))

-- a point lies in the common range exactly where it lies in both
pub in_common : (a b : Range) (x : Point) → in_range (common_range a b) x ≡ (in_range a x && in_range b x)
in_common a b x =
    same_from_decides {P = (in_range a x && in_range b x) ≡ true} (in_range (common_range a b) x)
    (in_range a x && in_range b x) (
      λ inside. let parts = in_range_parts (common_range a b) x inside in and_from (in_range a x) (in_range b x)
          (in_range_from a x (le_chain a.begin (greater_point a.begin b.begin) x (greater-left a.begin b.begin) parts.0)
          (lt_le_chain x (lesser_point a.end b.end) a.end parts.1 (lesser-left a.end b.end)))
          (in_range_from b x (le_chain b.begin (greater_point a.begin b.begin) x
          (greater-right a.begin b.begin) parts.0)
          (lt_le_chain x (lesser_point a.end b.end) b.end parts.1 (lesser-right a.end b.end))),
      λ both. let parts : (in_range a x ≡ true) × (in_range b x ≡ true) = and_parts _ _ both in
          let of_a = in_range_parts a x parts.0 in
          let of_b = in_range_parts b x parts.1 in
          in_range_from (common_range a b) x (greater_by a.begin b.begin x of_a.0 of_b.0)
          (below_lesser x a.end b.end of_a.1 of_b.1),
    )
    (λ both. both, λ both. both)

-- so the clipped range has just those points
pub in_clipped-points : (a b : Range) (x : Point) → in_clipped (clipped_range a b) x ≡ (in_range a x && in_range b x)
in_clipped-points a b x =
    ⊎_elim
    (λ meet. ap (λ r. in_clipped r x) (cond-true (ranges_meet a b) (Some (common_range a b)) None meet)
    ∙ in_common a b x)
    (λ apart. ap (λ r. in_clipped r x) (cond-false (ranges_meet a b) (Some (common_range a b)) None apart)
    ∙ sym (false_from_ne_true _ (λ both.
    let parts : (in_range a x ≡ true) × (in_range b x ≡ true) = and_parts _ _ both in
    both_ways _ apart (meet_from_common a b x parts.0 parts.1))))
    (cases_Bool (ranges_meet a b))

-- two legal ranges that meet have a legal range in common
pub common_is_legal : (a b : Range) → ranges_meet a b ≡ true → HasLegalBounds a → HasLegalBounds b
    → HasLegalBounds (common_range a b)
common_is_legal a b meet legal_a legal_b =
    let parts_a : (is_bound a.begin && is_bound a.end ≡ true)
    × (not (point_lt a.end a.begin) ≡ true) = and_parts _ _ legal_a in
    let parts_b : (is_bound b.begin && is_bound b.end ≡ true)
    × (not (point_lt b.end b.begin) ≡ true) = and_parts _ _ legal_b in
    let bounds_a : (is_bound a.begin ≡ true) × (is_bound a.end ≡ true) = and_parts _ _ parts_a.0 in
    let bounds_b : (is_bound b.begin ≡ true) × (is_bound b.end ≡ true) = and_parts _ _ parts_b.0 in
    let parts : (point_lt a.begin a.end && point_lt a.begin b.end ≡ true)
    × (point_lt b.begin a.end && point_lt b.begin b.end ≡ true) = and_parts _ _ meet in
    let of_a : (point_lt a.begin a.end ≡ true) × (point_lt a.begin b.end ≡ true) = and_parts _ _ parts.0 in
    let of_b : (point_lt b.begin a.end ≡ true) × (point_lt b.begin b.end ≡ true) = and_parts _ _ parts.1 in
    let ordered : point_lt (greater_point a.begin b.begin) (lesser_point a.end b.end) ≡ true =
    greater_below a.begin b.begin (lesser_point a.end b.end)
    (below_lesser a.begin a.end b.end of_a.0 of_a.1) (below_lesser b.begin a.end b.end of_b.0 of_b.1) in
    and_from (is_bound (greater_point a.begin b.begin) && is_bound (lesser_point a.end b.end)) _
    (and_from (is_bound (greater_point a.begin b.begin)) (is_bound (lesser_point a.end b.end))
    (is_bound-greater a.begin b.begin bounds_a.0 bounds_b.0) (is_bound-lesser a.end b.end bounds_a.1 bounds_b.1))
    (not_from_false _ (lt_one_way _ _ ordered))
