-- Ranges that meet have a point in common, and the other way round.
use Rattle.std.specs.Prelude.{⊤}
use Rattle.std.proofs.Common.{◌≡◌, true, false, not, ◌&&◌, ⊎_elim}
use Rattle.std.proofs.lemmas.Bool.{cases_Bool, and_parts, and_from, not-true, not_from_false}
use Rattle.fdb_keys.specs.Points.{Point, point_lt}
use Rattle.fdb_keys.specs.Ranges.{Range, in_range, ranges_meet}
use Rattle.fdb_keys.proofs.PointOrder.{lt-itself, lt_one_way, le_lt_chain}

-- a point that lies in a range comes neither before its begin nor at or after its end
pub in_range_parts : (range : Range) (x : Point) → in_range range x ≡ true → (point_lt x range.begin ≡ false)
    × (point_lt x range.end ≡ true)
in_range_parts range x inside =
    let parts : (not (point_lt x range.begin) ≡ true) × (point_lt x range.end ≡ true) = and_parts _ _ inside in
    (not-true _ parts.0, parts.1)

pub in_range_from : (range : Range) (x : Point) → point_lt x range.begin ≡ false → point_lt x range.end ≡ true
    → in_range range x ≡ true
in_range_from range x from until = and_from _ _ (not_from_false _ from) until

-- the ranges have a point in common
abbrev pub HaveCommonPoint : Range → Range → Type 0
HaveCommonPoint a b = (x : Point) × (in_range a x ≡ true) × (in_range b x ≡ true)

-- their common point is the greater of their begins, so it has what both begins have
pub begin_from_meet : (P : Point → Type 0) (a b : Range) → P a.begin → P b.begin → ranges_meet a b ≡ true
    → (x : Point) × P x × (in_range a x ≡ true) × (in_range b x ≡ true)
begin_from_meet P a b first second meet =
    let parts : (point_lt a.begin a.end && point_lt a.begin b.end ≡ true)
    × (point_lt b.begin a.end && point_lt b.begin b.end ≡ true) = and_parts _ _ meet in
    let of_a : (point_lt a.begin a.end ≡ true) × (point_lt a.begin b.end ≡ true) = and_parts _ _ parts.0 in
    let of_b : (point_lt b.begin a.end ≡ true) × (point_lt b.begin b.end ≡ true) = and_parts _ _ parts.1 in
    ⊎_elim
    (λ a_first. (
      b.begin,
      second,
      in_range_from a b.begin (lt_one_way _ _ a_first) of_b.0,
      in_range_from b b.begin (lt-itself b.begin) of_b.1,
    ))
    (λ b_first. (
      a.begin,
      first,
      in_range_from a a.begin (lt-itself a.begin) of_a.0,
      in_range_from b a.begin b_first of_a.1,
    ))
    (cases_Bool (point_lt a.begin b.begin))

pub common_from_meet : (a b : Range) → ranges_meet a b ≡ true → HaveCommonPoint a b
common_from_meet a b meet =
    let found = begin_from_meet (λ x. ⊤) a b tt tt meet in (found.0, found.2, found.3)

pub meet_from_common : (a b : Range) (x : Point) → in_range a x ≡ true → in_range b x ≡ true → ranges_meet a b ≡ true
meet_from_common a b x in_a in_b =
    let of_a = in_range_parts a x in_a in
    let of_b = in_range_parts b x in_b in
    and_from _ _
    (and_from _ _ (le_lt_chain a.begin x a.end of_a.0 of_a.1) (le_lt_chain a.begin x b.end of_a.0 of_b.1))
    (and_from _ _ (le_lt_chain b.begin x a.end of_b.0 of_a.1) (le_lt_chain b.begin x b.end of_b.0 of_b.1))
