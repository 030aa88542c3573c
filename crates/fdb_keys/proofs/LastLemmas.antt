-- The last range that begins at a point or before it: no other range lies between it and the point.
use Rattle.std.proofs.Common.{◌≡◌, ◌∙◌, sym, ap, refl, subst, Bool, true, false, not, ◌⊎◌, inl, inr, ⊎_elim, Option}
use Rattle.std.proofs.Common.{Some, None, List, [], ◌∷◌}
use Rattle.std.specs.Prelude.{MatchOption}
use Rattle.std.specs.Cmp.{both_ways as same_tests}
use Rattle.std.specs.List.{AllByRecursion, filter, last_or}
use Rattle.std.specs.Option.{option_or}
use Rattle.std.proofs.lemmas.Bool.{cases_Bool, or_cases, or_parts, both_ways, cond-true, cond-false, not_from_true}
use Rattle.std.proofs.lemmas.Bool.{not_from_false, not-true, true_from_ne_false}
use Rattle.fdb_keys.specs.Touching.{last_by}
use Rattle.fdb_keys.specs.Points.{Point, point_lt}
use Rattle.fdb_keys.specs.Ranges.{Range, in_range, in_set, is_apart}
use Rattle.fdb_keys.proofs.PointOrder.{lt_one_way, lt_le_chain}
use Rattle.fdb_keys.proofs.RangesLemmas.{in_range_parts}
use Rattle.fdb_keys.proofs.InsertionLemmas.{apart_parts}
use Rattle.fdb_keys.proofs.ApartLemmas.{all_after, in_set-before}
use Rattle.fdb_keys.proofs.PlaceLemmas.{begins_by}

-- what holds of each item, from two facts about it
pub all_from : {A : Type 0} {P Q R : A → Type 0} → ((a : A) → P a → Q a → R a) → (xs : List A) → AllByRecursion P xs
    → AllByRecursion Q xs → AllByRecursion R xs
all_from step [] ps qs = tt
all_from step (x ∷ xs) ps qs = (step x ps.0 qs.0, all_from step xs ps.1 qs.1)

last_stays : {A : Type 0} (x : A) (xs : List A) (other : Option A)
    → option_or (last_or (Some x) xs) other ≡ last_or (Some x) xs
last_stays x [] other = refl
last_stays x (y ∷ ys) other = last_stays y ys other

last_or-some : {A : Type 0} (x : A) (xs : List A) → last_or (Some x) xs ≡ option_or (last_or None xs) (Some x)
last_or-some x [] = refl
last_or-some x (y ∷ ys) = sym (last_stays y ys (Some x))

-- the range ends before the found one, is that one, or begins after it and after the point
abbrev pub IsElsewhere : Point → Range → Range → Type 0
IsElsewhere x found range = (point_lt range.end found.begin ≡ true) ⊎ ((range ≡ found)
    ⊎ ((point_lt x range.begin ≡ true) × (point_lt found.end range.begin ≡ true)))

-- the found range is of the list, begins at the point or before it, and all others are elsewhere
pub record IsLastBy (x : Point) (ranges : List Range) (found : Range) : Type 0 where
  pub from : point_lt x found.begin ≡ false
  pub others : AllByRecursion (IsElsewhere x found) ranges
  pub among : (p : Range → Bool) → AllByRecursion (λ range. p range ≡ true) ranges → p found ≡ true

-- each range begins after the point
abbrev pub AllAfter : Point → List Range → Type 0
AllAfter x ranges = AllByRecursion (λ range. point_lt x range.begin ≡ true) ranges

abbrev pub AnswersLast : Point → List Range → Option Range → Type 0
AnswersLast x ranges found = MatchOption found (AllAfter x ranges) (IsLastBy x ranges)

none_by : (x : Point) (ranges : List Range) → AllAfter x ranges → filter (begins_by x) ranges ≡ []
none_by x [] after = refl
none_by x (range ∷ ranges) after = cond-false _ _ _ (not_from_true _ after.0) ∙ none_by x ranges after.1

one_more : (x : Point) (range : Range) (ranges : List Range) → is_apart (range ∷ ranges) ≡ true
    → point_lt x range.begin ≡ false → (found : Option Range) → AnswersLast x ranges found
    → AnswersLast x (range ∷ ranges) (option_or found (Some range))
one_more x range ranges apart from None after =
    let parts = apart_parts range ranges apart in
    record {
      from = from;
      others = (
        inr (inl refl),
        all_from (λ other of_point of_end. inr (inr (of_point, of_end))) ranges after
            (all_after range.end ranges parts.2 parts.1),
      );
      among = λ p all. all.0;
    }
one_more x range ranges apart from (Some found) is =
    let parts = apart_parts range ranges apart in
    record {
      from = is.from;
      others = (
        inl (is.among (λ other. point_lt range.end other.begin) (all_after range.end ranges parts.2 parts.1)),
        is.others,
      );
      among = λ p all. is.among p all.1;
    }

pub last_by-is : (x : Point) (ranges : List Range) → is_apart ranges ≡ true → AnswersLast x ranges (last_by x ranges)
last_by-is x [] apart = tt
last_by-is x (range ∷ ranges) apart =
    ⊎_elim
    (λ after.
    let all = all_after x (range ∷ ranges) apart after in
    subst (AnswersLast x (range ∷ ranges)) (sym (ap (last_or None) (none_by x (range ∷ ranges) all))) all)
    (λ from.
    let found : last_by x (range ∷ ranges) ≡ option_or (last_by x ranges) (Some range) =
    ap (last_or None) (cond-true _ _ _ (not_from_false _ from)) ∙ last_or-some range (filter (begins_by x) ranges) in
    subst (AnswersLast x (range ∷ ranges)) (sym found)
    (one_more x range ranges apart from (last_by x ranges) (last_by-is x ranges (apart_parts range ranges apart).2)))
    (cases_Bool (point_lt x range.begin))

-- the point lies in the found range
abbrev pub is_in_found : Point → Option Range → Bool
is_in_found x None = false
is_in_found x (Some found) = in_range found x

only_in_found : (x : Point) (found : Range) (ranges : List Range) → point_lt x found.begin ≡ false
    → AllByRecursion (IsElsewhere x found) ranges → in_set ranges x ≡ true → in_range found x ≡ true
only_in_found x found [] from others inside = absurd (both_ways _ refl inside)
only_in_found x found (range ∷ ranges) from others inside =
    ⊎_elim
    (λ here.
    let parts = in_range_parts range x here in
    ⊎_elim
    (λ before. absurd
    (both_ways _ (lt_one_way x range.end parts.1) (lt_le_chain range.end found.begin x before from)))
    (⊎_elim
    (λ same. sym (ap (λ (r : Range). in_range r x) same) ∙ here)
    (λ after. absurd (both_ways _ parts.0 after.0)))
    others.0)
    (only_in_found x found ranges from others.1)
    (or_cases _ _ inside)

none_inside : (x : Point) (ranges : List Range) → in_set ranges x ≡ false
    → AllByRecursion (λ range. not (in_range range x) ≡ true) ranges
none_inside x [] outside = tt
none_inside x (range ∷ ranges) outside =
    let parts = or_parts (in_range range x) (in_set ranges x) outside in
    (not_from_false _ parts.0, none_inside x ranges parts.1)

-- a point of the found range lies in the set
pub in_set-found : (x y : Point) (found : Range) (ranges : List Range) → IsLastBy x ranges found
    → in_range found y ≡ true → in_set ranges y ≡ true
in_set-found x y found ranges is inside = true_from_ne_false _ (λ outside.
    both_ways _ (not-true _ (is.among (λ range. not (in_range range y)) (none_inside y ranges outside))) inside)

in_set-answered : (x : Point) (ranges : List Range) (found : Option Range) → AnswersLast x ranges found
    → in_set ranges x ≡ is_in_found x found
in_set-answered x ranges None after = in_set-before x ranges after
in_set-answered x ranges (Some found) is =
    same_tests _ _ (only_in_found x found ranges is.from is.others) (in_set-found x x found ranges is)

-- the point lies in the set just if it lies in the last range that begins by it
pub in_set-last : (x : Point) (ranges : List Range) → is_apart ranges ≡ true
    → in_set ranges x ≡ is_in_found x (last_by x ranges)
in_set-last x ranges apart = in_set-answered x ranges (last_by x ranges) (last_by-is x ranges apart)
