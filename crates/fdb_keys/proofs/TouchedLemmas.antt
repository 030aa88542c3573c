-- A range joined with those of a sorted list that it touches: no other range of the list touches the joined one.
use Rattle.std.proofs.Common.{◌≡◌, ◌∙◌, sym, ap, refl, subst, Bool, true, false, not, ◌||◌, ◌⊎◌, inl, inr, ⊎_elim}
use Rattle.std.proofs.Common.{Option, Some, None, List}
use Rattle.std.specs.Cmp.{both_ways as same_tests}
use Rattle.std.specs.List.{AllByRecursion}
use Rattle.std.proofs.Math.Bool.{or_assoc}
use Rattle.std.proofs.lemmas.Bool.{cases_Bool, or_cases, or_left, or_right, both_ways, cond-true, cond-false, not-true}
use Rattle.std.proofs.lemmas.Bool.{not_from_false}
use Rattle.fdb_keys.specs.Insertion.{lesser_point, greater_point, joined_range, inserted}
use Rattle.fdb_keys.specs.Touching.{ends_by, last_by, joined_where_touching, joined_with_touched}
use Rattle.fdb_keys.specs.Points.{Point, point_lt}
use Rattle.fdb_keys.specs.Ranges.{Range, in_range, in_set, is_apart}
use Rattle.fdb_keys.proofs.PointOrder.{lt-itself, lt_one_way, le_chain, lt_le_chain}
use Rattle.fdb_keys.proofs.RangesLemmas.{in_range_parts, in_range_from}
use Rattle.fdb_keys.proofs.InsertionLemmas.{lesser-right, greater-left, greater-right, below_lesser, greater_below}
use Rattle.fdb_keys.proofs.InsertionLemmas.{in_joined, some_joined, in_inserted, apart-inserted}
use Rattle.fdb_keys.proofs.ApartLemmas.{same_list}
use Rattle.fdb_keys.proofs.LastLemmas.{all_from, IsElsewhere, AnswersLast, last_by-is, in_set-found}

-- the range ends before the joined one, or doesn't begin before it
abbrev is_clear : Range → Range → Bool
is_clear joined range = point_lt range.end joined.begin || not (point_lt range.begin joined.begin)

-- the range comes before the joined one, lies in it, or comes after it
abbrev pub Fits : Range → Range → Type 0
Fits joined range = (point_lt range.end joined.begin ≡ true)
    ⊎ (((point_lt range.begin joined.begin ≡ false) × (point_lt joined.end range.end ≡ false))
    ⊎ (point_lt joined.end range.begin ≡ true))

from_one : {A : Type 0} {P Q : A → Type 0} → ((a : A) → P a → Q a) → (xs : List A) → AllByRecursion P xs
    → AllByRecursion Q xs
from_one step xs ps = all_from (λ a p q. step a p) xs ps ps

-- what begins by the range's begin, and touches it, is joined with it, and then the others are clear of its begin
clear_of_first : (range found other : Range) → point_lt range.begin found.begin ≡ false
    → point_lt found.end range.begin ≡ false → IsElsewhere range.begin found other
    → is_clear (joined_range range found) other ≡ true
clear_of_first range found other from touching elsewhere =
    let begin = lesser_point range.begin found.begin in
    ⊎_elim
    (λ before. or_left _ _
    (below_lesser other.end range.begin found.begin (lt_le_chain other.end found.begin range.begin before from) before))
    (⊎_elim
    (λ same. or_right _ _
    (not_from_false _ (ap (λ (r : Range). point_lt r.begin begin) same ∙ lesser-right range.begin found.begin)))
    (λ after. or_right _ _
    (not_from_false _
    (le_chain begin found.begin other.begin (lesser-right range.begin found.begin)
    (le_chain found.begin range.begin other.begin from (lt_one_way range.begin other.begin after.0))))))
    elsewhere

clear_of_untouched : (range found other : Range) → point_lt range.begin found.begin ≡ false
    → point_lt found.end range.begin ≡ true → IsElsewhere range.begin found other → is_clear range other ≡ true
clear_of_untouched range found other from apart elsewhere =
    ⊎_elim
    (λ before. or_left _ _ (lt_le_chain other.end found.begin range.begin before from))
    (⊎_elim
    (λ same. or_left _ _ (ap (λ (r : Range). point_lt r.end range.begin) same ∙ apart))
    (λ after. or_right _ _ (not_from_false _ (lt_one_way range.begin other.begin after.0))))
    elsewhere

first_is_clear : (range : Range) (ranges : List Range) (found : Option Range) → AnswersLast range.begin ranges found
    → AllByRecursion (λ other. is_clear (joined_where_touching range found) other ≡ true) ranges
first_is_clear range ranges None after =
    from_one (λ other later. or_right _ _ (not_from_false _ (lt_one_way range.begin other.begin later))) ranges after
first_is_clear range ranges (Some found) is =
    let clear_by = λ (joined : Range). AllByRecursion (λ other. is_clear joined other ≡ true) ranges in
    ⊎_elim
    (λ apart. subst clear_by (sym (cond-true _ _ _ apart))
    (from_one (λ other. clear_of_untouched range found other is.from apart) ranges is.others))
    (λ touching. subst clear_by (sym (cond-false _ _ _ touching))
    (from_one (λ other. clear_of_first range found other is.from touching) ranges is.others))
    (cases_Bool (point_lt found.end range.begin))

-- the same of the last one that begins by the range's end, and then the others fit
fits_untouched : (range found other : Range) → point_lt range.begin range.end ≡ true
    → point_lt range.end found.begin ≡ false → point_lt found.end range.begin ≡ true → is_clear range other ≡ true
    → IsElsewhere range.end found other → Fits range other
fits_untouched range found other some from apart clear elsewhere =
    ⊎_elim
    (λ before. ⊎_elim inl
    (λ later. inr (inl (
      not-true _ later,
      lt_one_way other.end range.end (lt_le_chain other.end found.begin range.end before from),
    )))
    (or_cases _ _ clear))
    (⊎_elim
    (λ same. inl (ap (λ (r : Range). point_lt r.end range.begin) same ∙ apart))
    (λ after. inr (inr after.0)))
    elsewhere

fits_joined : (range found other : Range) → point_lt range.end found.begin ≡ false
    → point_lt found.end range.begin ≡ false → is_clear range found ≡ true → is_clear range other ≡ true
    → IsElsewhere range.end found other → Fits (joined_range range found) other
fits_joined range found other from touching clear_found clear elsewhere =
    let end = greater_point range.end found.end in
    let later : point_lt found.begin range.begin ≡ false =
    ⊎_elim (λ before. absurd (both_ways _ touching before)) (λ later. not-true _ later) (or_cases _ _ clear_found) in
    let begins : lesser_point range.begin found.begin ≡ range.begin = cond-false _ _ _ later in
    let not_before = λ (x : Point) (l : point_lt x range.begin ≡ false). ap (point_lt x) begins ∙ l in
    ⊎_elim
    (λ before. ⊎_elim
    (λ ends. inl (ap (point_lt other.end) begins ∙ ends))
    (λ begun. inr (inl (
      not_before other.begin (not-true _ begun),
      le_chain other.end range.end end
          (lt_one_way other.end range.end (lt_le_chain other.end found.begin range.end before from))
          (greater-left range.end found.end),
    )))
    (or_cases _ _ clear))
    (⊎_elim
    (λ same. inr (inl (
      ap (λ (r : Range). point_lt r.begin (lesser_point range.begin found.begin)) same ∙ not_before found.begin later,
      ap (λ (r : Range). point_lt end r.end) same ∙ greater-right range.end found.end,
    )))
    (λ after. inr (inr (greater_below range.end found.end other.begin after.0 after.1))))
    elsewhere

last_fits : (range : Range) (ranges : List Range) (found : Option Range) → point_lt range.begin range.end ≡ true
    → AllByRecursion (λ other. is_clear range other ≡ true) ranges → AnswersLast range.end ranges found
    → AllByRecursion (Fits (joined_where_touching range found)) ranges
last_fits range ranges None some clear after = from_one (λ other later. inr (inr later)) ranges after
last_fits range ranges (Some found) some clear is =
    let fit_by = λ (joined : Range). AllByRecursion (Fits joined) ranges in
    ⊎_elim
    (λ apart. subst fit_by (sym (cond-true _ _ _ apart))
    (all_from (λ other. fits_untouched range found other some is.from apart) ranges clear is.others))
    (λ touching. subst fit_by (sym (cond-false _ _ _ touching))
    (all_from (λ other. fits_joined range found other is.from touching (is.among (is_clear range) clear)) ranges clear
    is.others))
    (cases_Bool (point_lt found.end range.begin))

-- a joined range has a point
pub some-where_touching : (range : Range) (found : Option Range) → point_lt range.begin range.end ≡ true
    → point_lt (joined_where_touching range found).begin (joined_where_touching range found).end ≡ true
some-where_touching range None some = some
some-where_touching range (Some found) some =
    let some_by = λ (joined : Range). point_lt joined.begin joined.end ≡ true in
    ⊎_elim
    (λ apart. subst some_by (sym (cond-true _ _ _ apart)) some)
    (λ touching. subst some_by (sym (cond-false _ _ _ touching)) (some_joined range found some))
    (cases_Bool (point_lt found.end range.begin))

-- with a range of the set that it touches, a range adds the points that it adds alone
points_joined : (x y : Point) (range : Range) (ranges : List Range) (found : Option Range)
    → point_lt range.end x ≡ false → AnswersLast x ranges found
    → (in_range (joined_where_touching range found) y || in_set ranges y) ≡ (in_range range y || in_set ranges y)
points_joined x y range ranges None by_end after = refl
points_joined x y range ranges (Some found) by_end is =
    let points_by = λ (joined : Range). in_range joined y || in_set ranges y in
    ⊎_elim
    (λ apart. ap points_by (cond-true _ _ _ apart))
    (λ touching.
    ap points_by (cond-false _ _ _ touching)
    ∙ ap (λ (t : Bool). t || in_set ranges y)
    (in_joined range found y touching (le_chain found.begin x range.end is.from by_end))
    ∙ or_assoc (in_range range y) (in_range found y) (in_set ranges y)
    ∙ ap (λ (t : Bool). in_range range y || t)
    (same_tests _ _ (λ inside. ⊎_elim (in_set-found x y found ranges is) (λ there. there) (or_cases _ _ inside))
    (λ there. or_right _ _ there)))
    (cases_Bool (point_lt found.end range.begin))

module _ (range : Range) (ranges : List Range) (some : point_lt range.begin range.end ≡ true)
    (apart : is_apart ranges ≡ true) where
  from_first : Range
  from_first = joined_where_touching range (last_by range.begin ranges)

  some_first : point_lt from_first.begin from_first.end ≡ true
  unfolding from_first
  some_first = some-where_touching range (last_by range.begin ranges) some

  pub some_touched : point_lt (joined_with_touched range ranges).begin (joined_with_touched range ranges).end ≡ true
  unfolding from_first
  some_touched = some-where_touching from_first (last_by from_first.end ranges) some_first

  -- each range of the list comes before the joined one, lies in it, or comes after it
  pub touched_fits : AllByRecursion (Fits (joined_with_touched range ranges)) ranges
  unfolding from_first
  touched_fits =
      last_fits from_first ranges (last_by from_first.end ranges) some_first
      (first_is_clear range ranges (last_by range.begin ranges) (last_by-is range.begin ranges apart))
      (last_by-is from_first.end ranges apart)

  -- and the set with the joined range is the set with the range
  pub inserted-touched : inserted (joined_with_touched range ranges) ranges ≡ inserted range ranges
  unfolding from_first
  inserted-touched =
      same_list (inserted (joined_with_touched range ranges) ranges) (inserted range ranges)
      (apart-inserted (joined_with_touched range ranges) ranges some_touched apart)
      (apart-inserted range ranges some apart) (λ x.
      in_inserted (joined_with_touched range ranges) ranges x
      ∙ points_joined from_first.end x from_first ranges (last_by from_first.end ranges) (lt-itself from_first.end)
      (last_by-is from_first.end ranges apart)
      ∙ points_joined range.begin x range ranges (last_by range.begin ranges) (lt_one_way range.begin range.end some)
      (last_by-is range.begin ranges apart)
      ∙ sym (in_inserted range ranges x))

-- a range is held where it ends by the end of the last one that begins by its begin
held_by_found : (range : Range) (ranges : List Range) (found : Option Range) → AnswersLast range.begin ranges found
    → ends_by range found ≡ true → (x : Point) → in_range range x ≡ true → in_set ranges x ≡ true
held_by_found range ranges None after held x inside = absurd (both_ways _ refl held)
held_by_found range ranges (Some found) is held x inside =
    let parts = in_range_parts range x inside in
    in_set-found range.begin x found ranges is
    (in_range_from found x (le_chain found.begin range.begin x is.from parts.0)
    (lt_le_chain x range.end found.end parts.1 (not-true _ held)))

pub held_by_last : (range : Range) (ranges : List Range) → is_apart ranges ≡ true
    → ends_by range (last_by range.begin ranges) ≡ true → (x : Point) → in_range range x ≡ true
    → in_set ranges x ≡ true
held_by_last range ranges apart = held_by_found range ranges (last_by range.begin ranges)
    (last_by-is range.begin ranges apart)
