-- Of the lists that hold the same points just one is sorted, apart and without an empty range.
use Rattle.std.proofs.Common.{◌≡◌, ◌∙◌, sym, ap, refl, Bool, true, false, not, ◌&&◌, ◌||◌, List, [], ◌∷◌, ⊎_elim}
use Rattle.std.specs.Cmp.{both_ways as same_tests}
use Rattle.std.specs.List.{AllByRecursion}
use Rattle.std.proofs.lemmas.Bool.{cases_Bool, and_left, and_right, or_left, or_right, or_cases, or_from, both_ways}
use Rattle.std.proofs.lemmas.Bool.{cond-true, cond-false, not-false, not_from_true, false_from_ne_true}
use Rattle.std.proofs.Math.Bool.{or_assoc, or_comm}
use Rattle.fdb_keys.specs.Insertion.{with_range, with_ranges}
use Rattle.fdb_keys.specs.Points.{Point, point_lt}
use Rattle.fdb_keys.specs.Ranges.{Range, in_range, in_set, is_empty_range, begins_after, is_apart}
use Rattle.fdb_keys.proofs.PointOrder.{lt-itself, lt_one_way, lt_chain, le_lt_chain, same_point}
use Rattle.fdb_keys.proofs.RangesLemmas.{in_range_parts, in_range_from}
use Rattle.fdb_keys.proofs.InsertionLemmas.{apart_parts, begins_after-sooner, in_range-empty, in_inserted}
use Rattle.fdb_keys.proofs.InsertionLemmas.{apart-inserted}

-- where the first range begins after a point, each one does
pub all_after : (x : Point) (ranges : List Range) → is_apart ranges ≡ true → begins_after x ranges ≡ true
    → AllByRecursion (λ range. point_lt x range.begin ≡ true) ranges
all_after x [] apart after = tt
all_after x (range ∷ ranges) apart after =
    let parts = apart_parts range ranges apart in (
      after,
      all_after x ranges parts.2
          (begins_after-sooner x range.end ranges (lt_chain x range.begin range.end after parts.0) parts.1),
    )

-- and the point lies in none
pub in_set-before : (x : Point) (ranges : List Range)
    → AllByRecursion (λ range. point_lt x range.begin ≡ true) ranges → in_set ranges x ≡ false
in_set-before x [] after = refl
in_set-before x (range ∷ ranges) after =
    or_from (in_range range x) (in_set ranges x) (and_left _ _ (not_from_true _ after.0))
    (in_set-before x ranges after.1)

-- the points of the first range, and its end, lie in no other one
not_in_rest : (x : Point) (range : Range) (ranges : List Range) → is_apart (range ∷ ranges) ≡ true
    → point_lt range.end x ≡ false → in_set ranges x ≡ false
not_in_rest x range ranges apart until =
    let parts = apart_parts range ranges apart in
    in_set-before x ranges (all_sooner ranges (all_after range.end ranges parts.2 parts.1))
  where
    all_sooner : (rest : List Range) → AllByRecursion (λ r. point_lt range.end r.begin ≡ true) rest
        → AllByRecursion (λ r. point_lt x r.begin ≡ true) rest
    all_sooner [] after = tt
    all_sooner (next ∷ rest) after = (le_lt_chain x range.end next.begin until after.0, all_sooner rest after.1)

-- the begin of the first range lies in it
pub begin_inside : (range : Range) (ranges : List Range) → is_apart (range ∷ ranges) ≡ true
    → in_set (range ∷ ranges) range.begin ≡ true
begin_inside range ranges apart =
    or_left _ _ (in_range_from range range.begin (lt-itself range.begin) (apart_parts range ranges apart).0)

-- the points of the other ranges are those of the list that don't lie in the first one
in_set-rest : (x : Point) (range : Range) (ranges : List Range) → is_apart (range ∷ ranges) ≡ true
    → in_set ranges x ≡ (not (in_range range x) && in_set (range ∷ ranges) x)
in_set-rest x range ranges apart =
    ⊎_elim
    (λ inside.
    not_in_rest x range ranges apart (lt_one_way x range.end (in_range_parts range x inside).1)
    ∙ sym (and_left _ _ (not_from_true _ inside)))
    (λ outside. sym (ap (λ (t : Bool). not t && (t || in_set ranges x)) outside))
    (cases_Bool (in_range range x))

module _ (a b : Range) (as_ bs : List Range) (apart_a : is_apart (a ∷ as_) ≡ true) (apart_b : is_apart (b ∷ bs) ≡ true)
    (same : (x : Point) → in_set (a ∷ as_) x ≡ in_set (b ∷ bs) x) where
  -- so the first range doesn't begin sooner, where the points are the same
  begins_no_sooner : point_lt a.begin b.begin ≡ false
  begins_no_sooner = false_from_ne_true _ (λ sooner.
      both_ways _ (same a.begin ∙ in_set-before a.begin (b ∷ bs) (all_after a.begin (b ∷ bs) apart_b sooner))
      (begin_inside a as_ apart_a))

  -- nor does it end sooner, where both begin at the same point
  ends_no_sooner : a.begin ≡ b.begin → point_lt a.end b.end ≡ false
  ends_no_sooner begins = false_from_ne_true _ (λ sooner.
      let parts = apart_parts a as_ apart_a in
      let from : point_lt a.end b.begin ≡ false = ap (point_lt a.end) (sym begins) ∙ lt_one_way a.begin a.end parts.0 in
      let inside : in_set (b ∷ bs) a.end ≡ true = or_left _ _ (in_range_from b a.end from sooner) in
      let outside : in_set (a ∷ as_) a.end ≡ false = or_from _ _ (and_right _ _ (lt-itself a.end))
      (not_in_rest a.end a as_ apart_a (lt-itself a.end)) in
      both_ways _ outside (same a.end ∙ inside))

-- two lists that are apart and hold the same points are the same list
pub same_list : (a b : List Range) → is_apart a ≡ true → is_apart b ≡ true
    → ((x : Point) → in_set a x ≡ in_set b x) → a ≡ b
same_list [] [] apart_a apart_b same = refl
same_list [] (b ∷ bs) apart_a apart_b same = absurd (both_ways _ (sym (same b.begin)) (begin_inside b bs apart_b))
same_list (a ∷ as_) [] apart_a apart_b same = absurd (both_ways _ (same a.begin) (begin_inside a as_ apart_a))
same_list (a ∷ as_) (b ∷ bs) apart_a apart_b same =
    let back : (x : Point) → in_set (b ∷ bs) x ≡ in_set (a ∷ as_) x = λ x. sym (same x) in
    let begins : a.begin ≡ b.begin = same_point a.begin b.begin (begins_no_sooner a b as_ bs apart_a apart_b same)
    (begins_no_sooner b a bs as_ apart_b apart_a back) in
    let ends : a.end ≡ b.end = same_point a.end b.end (ends_no_sooner a b as_ bs apart_a apart_b same begins)
    (ends_no_sooner b a bs as_ apart_b apart_a back (sym begins)) in
    let first : a ≡ b = λ i. record { begin = begins i; end = ends i } in
    let rest : as_ ≡ bs = same_list as_ bs (apart_parts a as_ apart_a).2 (apart_parts b bs apart_b).2 (λ x.
    in_set-rest x a as_ apart_a
    ∙ ap (λ (t : Bool). not (in_range a x) && t) (same x)
    ∙ ap (λ (range : Range). not (in_range range x) && in_set (b ∷ bs) x) first
    ∙ sym (in_set-rest x b bs apart_b)) in
    λ i. first i ∷ rest i

-- a set with one more range is apart, and has the points of both
pub apart-with_range : (range : Range) (ranges : List Range) → is_apart ranges ≡ true
    → is_apart (with_range range ranges) ≡ true
apart-with_range range ranges apart =
    ⊎_elim
    (λ empty. ap is_apart (cond-true _ _ _ empty) ∙ apart)
    (λ some. ap is_apart (cond-false _ _ _ some) ∙ apart-inserted range ranges (not-false _ some) apart)
    (cases_Bool (is_empty_range range))

pub in_with_range : (range : Range) (ranges : List Range) (x : Point)
    → in_set (with_range range ranges) x ≡ (in_range range x || in_set ranges x)
in_with_range range ranges x =
    ⊎_elim
    (λ empty.
    ap (λ (l : List Range). in_set l x) (cond-true _ _ _ empty)
    ∙ ap (λ (t : Bool). t || in_set ranges x) (sym (in_range-empty range x empty)))
    (λ some. ap (λ (l : List Range). in_set l x) (cond-false _ _ _ some) ∙ in_inserted range ranges x)
    (cases_Bool (is_empty_range range))

-- the same of more than one range
pub apart-with_ranges : (added ranges : List Range) → is_apart ranges ≡ true
    → is_apart (with_ranges added ranges) ≡ true
apart-with_ranges [] ranges apart = apart
apart-with_ranges (range ∷ added) ranges apart =
    apart-with_ranges added (with_range range ranges) (apart-with_range range ranges apart)

pub in_with_ranges : (added ranges : List Range) (x : Point)
    → in_set (with_ranges added ranges) x ≡ (in_set added x || in_set ranges x)
in_with_ranges [] ranges x = refl
in_with_ranges (range ∷ added) ranges x =
    in_with_ranges added (with_range range ranges) x
    ∙ ap (λ (t : Bool). in_set added x || t) (in_with_range range ranges x)
    ∙ sym (or_assoc (in_set added x) (in_range range x) (in_set ranges x))
    ∙ ap (λ (t : Bool). t || in_set ranges x) (or_comm (in_set added x) (in_range range x))

-- a range whose points are all in the set changes nothing
pub with_range-held : (range : Range) (ranges : List Range) → is_apart ranges ≡ true
    → ((x : Point) → in_range range x ≡ true → in_set ranges x ≡ true) → with_range range ranges ≡ ranges
with_range-held range ranges apart held =
    same_list (with_range range ranges) ranges (apart-with_range range ranges apart) apart (λ x.
    in_with_range range ranges x
    ∙ same_tests _ _ (λ inside. ⊎_elim (held x) (λ there. there) (or_cases _ _ inside)) (λ there. or_right _ _ there))
