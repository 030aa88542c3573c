-- What of a range lies in none of the ranges of a sorted list: what is left as each of them is taken out, and what a
-- walk over those that begin within the range finds between them.
use Rattle.std.proofs.Common.{◌≡◌, ◌∙◌, sym, ap, refl, subst, Bool, true, false, not, ◌&&◌, ◌||◌, ◌⊎◌, inl, inr, ⊎_elim}
use Rattle.std.proofs.Common.{Option, Some, None, List, [], ◌∷◌, ◌++◌}
use Rattle.std.specs.Cmp.{both_ways as same_tests}
use Rattle.std.specs.List.{AllByRecursion, fold, filter}
use Rattle.std.proofs.Math.Bool.{and-true}
use Rattle.std.proofs.lemmas.Bool.{cases_Bool, and_left, and_right, and_parts, and_from, or_cases, or_parts, or_left}
use Rattle.std.proofs.lemmas.Bool.{or_right, or_from, both_ways, cond-true, cond-false, not-true, not_from_false}
use Rattle.std.proofs.lemmas.Bool.{false_from_ne_true}
use Rattle.std.proofs.lemmas.List.{append-nil}
use Rattle.std.proofs.lemmas.List.Folds.{list_any-append}
use Rattle.fdb_keys.specs.Insertion.{greater_point}
use Rattle.fdb_keys.specs.Points.{Point, point_lt}
use Rattle.fdb_keys.specs.Ranges.{Range, in_range, in_set, is_empty_range, begins_after, is_apart}
use Rattle.fdb_keys.specs.Removal.{range_between, without_range, outside}
use Rattle.fdb_keys.specs.Touching.{last_by, begin_past}
use Rattle.fdb_keys.proofs.PointOrder.{lt_one_way, lt_chain, le_chain, le_lt_chain}
use Rattle.fdb_keys.proofs.RangesLemmas.{in_range_parts, in_range_from}
use Rattle.fdb_keys.proofs.InsertionLemmas.{apart_parts, apart_from, in_range-empty, greater-left, greater-right}
use Rattle.fdb_keys.proofs.InsertionLemmas.{greater_below}
use Rattle.fdb_keys.proofs.ApartLemmas.{all_after, in_set-before, same_list}
use Rattle.fdb_keys.proofs.ClippingLemmas.{greater_by}
use Rattle.fdb_keys.proofs.LastLemmas.{all_from, IsElsewhere, AnswersLast, last_by-is, in_set-found, is_in_found}
use Rattle.fdb_keys.proofs.RemovalLemmas.{in_between, begins_after-between, apart-between, in_without, apart-without}

-- ---- as each range is taken out
neither : (l p q : Bool) → ((l && not p) && not q) ≡ (l && not (p || q))
neither true true q = refl
neither true false q = refl
neither false p q = refl

in_taken : (ranges left : List Range) (x : Point)
    → in_set (fold (λ rest held. without_range held rest) left ranges) x ≡ (in_set left x && not (in_set ranges x))
in_taken [] left x = sym (and-true (in_set left x))
in_taken (held ∷ ranges) left x =
    in_taken ranges (without_range held left) x
    ∙ ap (λ (t : Bool). t && not (in_set ranges x)) (in_without held left x)
    ∙ neither (in_set left x) (in_range held x) (in_set ranges x)

apart-taken : (ranges left : List Range) → is_apart left ≡ true
    → is_apart (fold (λ rest held. without_range held rest) left ranges) ≡ true
apart-taken [] left apart = apart
apart-taken (held ∷ ranges) left apart = apart-taken ranges (without_range held left) (apart-without held left apart)

pub in_outside : (ranges : List Range) (range : Range) (x : Point)
    → in_set (outside ranges range) x ≡ (in_range range x && not (in_set ranges x))
in_outside ranges range x =
    in_taken ranges (range_between range.begin range.end) x
    ∙ ap (λ (t : Bool). t && not (in_set ranges x)) (in_between range.begin range.end x)

alone : (begin end : Point) → is_apart (range_between begin end) ≡ true
alone begin end =
    ap is_apart (sym (append-nil (range_between begin end))) ∙ apart-between begin end [] (λ some. refl) refl

pub apart-outside : (ranges : List Range) (range : Range) → is_apart (outside ranges range) ≡ true
apart-outside ranges range = apart-taken ranges (range_between range.begin range.end) (alone range.begin range.end)

-- of a range without a point nothing is left
pub outside-empty : (ranges : List Range) (range : Range) → is_empty_range range ≡ true → outside ranges range ≡ []
outside-empty ranges range empty =
    same_list (outside ranges range) [] (apart-outside ranges range) refl (λ x.
    in_outside ranges range x ∙ and_left _ _ (in_range-empty range x empty))

-- ---- between the ranges of a list
-- what lies between the ranges, from a begin up to an end
abbrev pub gaps : Point → Point → List Range → List Range
gaps begin end [] = range_between begin end
gaps begin end (held ∷ ranges) = range_between begin held.begin ++ gaps held.end end ranges

begins_after-gaps : (x begin end : Point) (ranges : List Range) → point_lt x begin ≡ true → is_apart ranges ≡ true
    → begins_after begin ranges ≡ true → begins_after x (gaps begin end ranges) ≡ true
begins_after-gaps x begin end [] first apart later =
    ap (begins_after x) (sym (append-nil (range_between begin end)))
    ∙ begins_after-between x begin end [] (λ some. first) refl
begins_after-gaps x begin end (held ∷ ranges) first apart later =
    let parts = apart_parts held ranges apart in
    begins_after-between x begin held.begin (gaps held.end end ranges) (λ some. first)
    (begins_after-gaps x held.end end ranges
    (lt_chain x begin held.end first (lt_chain begin held.begin held.end later parts.0)) parts.2 parts.1)

apart-gaps : (begin end : Point) (ranges : List Range)
    → is_apart ranges ≡ true → is_apart (gaps begin end ranges) ≡ true
apart-gaps begin end [] apart = alone begin end
apart-gaps begin end (held ∷ ranges) apart =
    let parts = apart_parts held ranges apart in
    apart-between begin held.begin (gaps held.end end ranges)
    (λ some. begins_after-gaps held.begin held.end end ranges parts.0 parts.2 parts.1)
    (apart-gaps held.end end ranges parts.2)

abbrev upto : Point → Point → Range
upto begin end = record { begin = begin; end = end }

-- one range more at the front: a point before it, or after it and in no later one
outside_first : (begin end : Point) (held : Range) (ranges : List Range) (x : Point) → is_apart (held ∷ ranges) ≡ true
    → point_lt begin held.begin ≡ true → point_lt held.begin end ≡ true
    → (in_range (upto begin held.begin) x || (in_range (upto held.end end) x && not (in_set ranges x))) ≡ true
    → (in_range (upto begin end) x && not (in_set (held ∷ ranges) x)) ≡ true
outside_first begin end held ranges x apart later within inside =
    let parts = apart_parts held ranges apart in
    ⊎_elim
    (λ before.
    let of_gap = in_range_parts (upto begin held.begin) x before in
    and_from (in_range (upto begin end) x) _
    (in_range_from (upto begin end) x of_gap.0 (lt_chain x held.begin end of_gap.1 within))
    (not_from_false _ (in_set-before x (held ∷ ranges) (all_after x (held ∷ ranges) apart of_gap.1))))
    (λ after.
    let both : (in_range (upto held.end end) x ≡ true) × (not (in_set ranges x) ≡ true) = and_parts _ _ after in
    let of_gap = in_range_parts (upto held.end end) x both.0 in
    and_from (in_range (upto begin end) x) _
    (in_range_from (upto begin end) x
    (le_chain begin held.end x (lt_one_way begin held.end (lt_chain begin held.begin held.end later parts.0)) of_gap.0)
    of_gap.1)
    (not_from_false _ (or_from _ _ (and_right _ _ of_gap.0) (not-true _ both.1))))
    (or_cases _ _ inside)

outside_rest : (begin end : Point) (held : Range) (ranges : List Range) (x : Point)
    → (in_range (upto begin end) x && not (in_set (held ∷ ranges) x)) ≡ true
    → (in_range (upto begin held.begin) x || (in_range (upto held.end end) x && not (in_set ranges x))) ≡ true
outside_rest begin end held ranges x left =
    let both : (in_range (upto begin end) x ≡ true) × (not (in_set (held ∷ ranges) x) ≡ true) = and_parts _ _ left in
    let of_whole = in_range_parts (upto begin end) x both.0 in
    let clear = or_parts (in_range held x) (in_set ranges x) (not-true _ both.1) in
    ⊎_elim
    (λ before. or_left _ _ (in_range_from (upto begin held.begin) x of_whole.0 before))
    (λ from. or_right _ _ (and_from (in_range (upto held.end end) x) (not (in_set ranges x))
    (in_range_from (upto held.end end) x
    (false_from_ne_true _ (λ until. both_ways _ clear.0 (in_range_from held x from until))) of_whole.1)
    (not_from_false _ clear.1)))
    (cases_Bool (point_lt x held.begin))

-- a point lies in a gap exactly where it lies in none of the ranges
in_gaps : (begin end : Point) (ranges : List Range) (x : Point) → is_apart ranges ≡ true
    → begins_after begin ranges ≡ true → AllByRecursion (λ range. point_lt range.begin end ≡ true) ranges
    → in_set (gaps begin end ranges) x ≡ (in_range (upto begin end) x && not (in_set ranges x))
in_gaps begin end [] x apart later within = in_between begin end x ∙ sym (and-true _)
in_gaps begin end (held ∷ ranges) x apart later within =
    let parts = apart_parts held ranges apart in
    list_any-append (λ r. in_range r x) (range_between begin held.begin) (gaps held.end end ranges)
    ∙ ap (λ (t : Bool). t || in_set (gaps held.end end ranges) x) (in_between begin held.begin x)
    ∙ ap (λ (t : Bool). in_range (upto begin held.begin) x || t)
    (in_gaps held.end end ranges x parts.2 parts.1 within.1)
    ∙ same_tests _ _ (outside_first begin end held ranges x apart later within.0)
    (outside_rest begin end held ranges x)

-- ---- the ranges that begin within a range
-- some of the ranges that are apart are apart
begins_after-filter : (x : Point) (p : Range → Bool) (ranges : List Range)
    → AllByRecursion (λ range. point_lt x range.begin ≡ true) ranges → begins_after x (filter p ranges) ≡ true
begins_after-filter x p [] after = refl
begins_after-filter x p (range ∷ ranges) after =
    ⊎_elim
    (λ kept. ap (begins_after x) (cond-true _ _ _ kept) ∙ after.0)
    (λ dropped. ap (begins_after x) (cond-false _ _ _ dropped) ∙ begins_after-filter x p ranges after.1)
    (cases_Bool (p range))

apart-filter : (p : Range → Bool) (ranges : List Range) → is_apart ranges ≡ true → is_apart (filter p ranges) ≡ true
apart-filter p [] apart = refl
apart-filter p (range ∷ ranges) apart =
    let parts = apart_parts range ranges apart in
    let rest = apart-filter p ranges parts.2 in
    ⊎_elim
    (λ kept. ap is_apart (cond-true _ _ _ kept)
    ∙ apart_from range (filter p ranges) parts.0
    (begins_after-filter range.end p ranges (all_after range.end ranges parts.2 parts.1)) rest)
    (λ dropped. ap is_apart (cond-false _ _ _ dropped) ∙ rest)
    (cases_Bool (p range))

-- what each range has that is kept
all_kept : (Q : Range → Type 0) (p : Range → Bool) (ranges : List Range)
    → AllByRecursion (λ range. p range ≡ true → Q range) ranges → AllByRecursion Q (filter p ranges)
all_kept Q p [] has = tt
all_kept Q p (range ∷ ranges) has =
    let rest = all_kept Q p ranges has.1 in
    ⊎_elim
    (λ kept. subst (AllByRecursion Q) (sym (cond-true _ _ _ kept)) (has.0 kept, rest))
    (λ dropped. subst (AllByRecursion Q) (sym (cond-false _ _ _ dropped)) rest)
    (cases_Bool (p range))

-- a point of the ranges that are kept lies in the set
in_kept : (p : Range → Bool) (ranges : List Range) (x : Point) → in_set (filter p ranges) x ≡ true
    → in_set ranges x ≡ true
in_kept p [] x inside = inside
in_kept p (range ∷ ranges) x inside =
    ⊎_elim
    (λ kept.
    let there : (in_range range x || in_set (filter p ranges) x) ≡ true =
    sym (ap (λ (l : List Range). in_set l x) (cond-true _ _ _ kept)) ∙ inside in
    ⊎_elim (or_left _ _) (λ later. or_right _ _ (in_kept p ranges x later)) (or_cases _ _ there))
    (λ dropped.
    or_right _ _
    (in_kept p ranges x (sym (ap (λ (l : List Range). in_set l x) (cond-false _ _ _ dropped)) ∙ inside)))
    (cases_Bool (p range))

-- and each point of the set in one of them, or elsewhere
kept_or : (Other : Type 0) (p : Range → Bool) (ranges : List Range) (x : Point)
    → AllByRecursion (λ range. in_range range x ≡ true → Other ⊎ (p range ≡ true)) ranges → in_set ranges x ≡ true
    → Other ⊎ (in_set (filter p ranges) x ≡ true)
kept_or Other p [] x found inside = absurd (both_ways _ refl inside)
kept_or Other p (range ∷ ranges) x found inside =
    ⊎_elim
    (λ here. ⊎_elim inl
    (λ kept. inr (ap (λ (l : List Range). in_set l x) (cond-true _ _ _ kept) ∙ or_left _ _ here))
    (found.0 here))
    (λ there. ⊎_elim inl
    (λ later. inr (⊎_elim
    (λ kept. ap (λ (l : List Range). in_set l x) (cond-true _ _ _ kept) ∙ or_right _ _ later)
    (λ dropped. ap (λ (l : List Range). in_set l x) (cond-false _ _ _ dropped) ∙ later)
    (cases_Bool (p range))))
    (kept_or Other p ranges x found.1 there))
    (or_cases _ _ inside)

-- ---- a walk from the last range that begins by the range's begin, over those that begin inside it
-- the range begins after the other one's begin, and before its end
abbrev pub begins_inside : Range → Range → Bool
begins_inside other range = point_lt other.begin range.begin && point_lt range.begin other.end

all_some : (ranges : List Range) → is_apart ranges ≡ true
    → AllByRecursion (λ range. point_lt range.begin range.end ≡ true) ranges
all_some [] apart = tt
all_some (range ∷ ranges) apart =
    let parts = apart_parts range ranges apart in (parts.0, all_some ranges parts.2)

-- what begins inside comes after the found range, and so after the begin of the rest
past_found : (range found other : Range) → point_lt range.begin found.begin ≡ false
    → point_lt other.begin other.end ≡ true → IsElsewhere range.begin found other → begins_inside range other ≡ true
    → point_lt (greater_point range.begin found.end) other.begin ≡ true
past_found range found other from some elsewhere inside =
    let parts : (point_lt range.begin other.begin ≡ true) × (point_lt other.begin range.end ≡ true) =
    and_parts _ _ inside in
    ⊎_elim
    (λ before. absurd (both_ways _ from
    (lt_chain range.begin other.end found.begin (lt_chain range.begin other.begin other.end parts.0 some) before)))
    (⊎_elim
    (λ same. absurd (both_ways _ from (ap (λ (r : Range). point_lt range.begin r.begin) (sym same) ∙ parts.0)))
    (λ after. greater_below range.begin found.end other.begin parts.0 after.1))
    elsewhere

all_past : (range : Range) (ranges : List Range) (found : Option Range) → is_apart ranges ≡ true
    → AnswersLast range.begin ranges found
    → AllByRecursion (λ other. begins_inside range other ≡ true → point_lt (begin_past range found) other.begin ≡ true)
    ranges
all_past range ranges None apart after = all_from (λ other later again inside. later) ranges after after
all_past range ranges (Some found) apart is =
    all_from (λ other. past_found range found other is.from) ranges (all_some ranges apart) is.others

all_within : (range : Range) (ranges : List Range) → is_apart ranges ≡ true
    → AllByRecursion (λ other. begins_inside range other ≡ true → point_lt other.begin range.end ≡ true) ranges
all_within range ranges apart =
    all_from (λ other some again (inside : begins_inside range other ≡ true).
    let parts : (point_lt range.begin other.begin ≡ true) × (point_lt other.begin range.end ≡ true) =
    and_parts _ _ inside in parts.1) ranges (all_some ranges apart) (all_some ranges apart)

first_after : (x : Point) (ranges : List Range) → AllByRecursion (λ range. point_lt x range.begin ≡ true) ranges
    → begins_after x ranges ≡ true
first_after x [] after = refl
first_after x (range ∷ ranges) after = after.0

-- a point of the range that lies in the set lies in the found range or in one that begins inside
found_or_inside : (range : Range) (ranges : List Range) (found : Option Range) (x : Point) → in_range range x ≡ true
    → AnswersLast range.begin ranges found
    → AllByRecursion (λ other. in_range other x ≡ true
    → (is_in_found x found ≡ true) ⊎ (begins_inside range other ≡ true)) ranges
found_or_inside range ranges None x here after =
    all_from (λ other later again there. inr (and_from (point_lt range.begin other.begin) _ later
    (le_lt_chain other.begin x range.end (in_range_parts other x there).0 (in_range_parts range x here).1)))
    ranges after after
found_or_inside range ranges (Some found) x here is =
    let of_range = in_range_parts range x here in
    all_from (λ other elsewhere again there.
    let of_other = in_range_parts other x there in
    ⊎_elim
    (λ before. absurd (both_ways _
    (le_chain found.begin range.begin x is.from of_range.0) (lt_chain x other.end found.begin of_other.1 before)))
    (⊎_elim
    (λ same. inl (sym (ap (λ (r : Range). in_range r x) same) ∙ there))
    (λ after. inr (and_from (point_lt range.begin other.begin) _ after.0
    (le_lt_chain other.begin x range.end of_other.0 of_range.1))))
    elsewhere) ranges is.others is.others

-- the rest of the range, from the found one on, has those of its points that don't lie in the found one
rest_parts : (range : Range) (found : Option Range) (x : Point)
    → in_range (upto (begin_past range found) range.end) x ≡ true
    → (in_range range x ≡ true) × (is_in_found x found ≡ false)
rest_parts range None x inside = (inside, refl)
rest_parts range (Some found) x inside =
    let begin = greater_point range.begin found.end in
    let parts = in_range_parts (upto begin range.end) x inside in (
      in_range_from range x (le_chain range.begin begin x (greater-left range.begin found.end) parts.0) parts.1,
      and_right _ _ (le_chain found.end begin x (greater-right range.begin found.end) parts.0),
    )

rest_from : (range : Range) (ranges : List Range) (found : Option Range) (x : Point)
    → AnswersLast range.begin ranges found → in_range range x ≡ true → is_in_found x found ≡ false
    → in_range (upto (begin_past range found) range.end) x ≡ true
rest_from range ranges None x after here clear = here
rest_from range ranges (Some found) x is here clear =
    let parts = in_range_parts range x here in
    in_range_from (upto (greater_point range.begin found.end) range.end) x
    (greater_by range.begin found.end x parts.0
    (false_from_ne_true _ (λ until. both_ways _ clear
    (in_range_from found x (le_chain found.begin range.begin x is.from parts.0) until))))
    parts.1

clear_of_found : (x y : Point) (ranges : List Range) (found : Option Range) → AnswersLast x ranges found
    → in_set ranges y ≡ false → is_in_found y found ≡ false
clear_of_found x y ranges None after outside = refl
clear_of_found x y ranges (Some found) is outside =
    false_from_ne_true _ (λ there. both_ways _ outside (in_set-found x y found ranges is there))

module _ (range : Range) (ranges : List Range) (found : Option Range) (is : AnswersLast range.begin ranges found) where
  outside_from_gaps : (x : Point)
      → (in_range (upto (begin_past range found) range.end) x
      && not (in_set (filter (begins_inside range) ranges) x)) ≡ true
      → (in_range range x && not (in_set ranges x)) ≡ true
  outside_from_gaps x left =
      let both : (in_range (upto (begin_past range found) range.end) x ≡ true)
      × (not (in_set (filter (begins_inside range) ranges) x) ≡ true) = and_parts _ _ left in
      let rest = rest_parts range found x both.0 in
      and_from (in_range range x) (not (in_set ranges x)) rest.0 (not_from_false _ (false_from_ne_true _ (λ there.
      ⊎_elim
      (λ held. both_ways _ rest.1 held)
      (λ held. both_ways _ (not-true _ both.1) held)
      (kept_or (is_in_found x found ≡ true) (begins_inside range) ranges x
      (found_or_inside range ranges found x rest.0 is) there))))

  gaps_from_outside : (x : Point) → (in_range range x && not (in_set ranges x)) ≡ true
      → (in_range (upto (begin_past range found) range.end) x
      && not (in_set (filter (begins_inside range) ranges) x)) ≡ true
  gaps_from_outside x left =
      let both : (in_range range x ≡ true) × (not (in_set ranges x) ≡ true) = and_parts _ _ left in
      let clear : in_set ranges x ≡ false = not-true _ both.1 in
      and_from (in_range (upto (begin_past range found) range.end) x) _
      (rest_from range ranges found x is both.0 (clear_of_found range.begin x ranges found is clear))
      (not_from_false _ (false_from_ne_true _ (λ kept.
      both_ways _ clear (in_kept (begins_inside range) ranges x kept))))

-- what the walk finds is what of the range lies in none of the ranges
pub gaps-outside : (range : Range) (ranges : List Range) → is_apart ranges ≡ true
    → gaps (begin_past range (last_by range.begin ranges)) range.end (filter (begins_inside range) ranges)
    ≡ outside ranges range
gaps-outside range ranges apart =
    let found = last_by range.begin ranges in
    let is = last_by-is range.begin ranges apart in
    let begin = begin_past range found in
    let inside = filter (begins_inside range) ranges in
    let of_inside = apart-filter (begins_inside range) ranges apart in
    same_list (gaps begin range.end inside) (outside ranges range) (apart-gaps begin range.end inside of_inside)
    (apart-outside ranges range) (λ x.
    in_gaps begin range.end inside x of_inside
    (first_after begin inside
    (all_kept (λ other. point_lt begin other.begin ≡ true) (begins_inside range) ranges
    (all_past range ranges found apart is)))
    (all_kept (λ other. point_lt other.begin range.end ≡ true) (begins_inside range) ranges
    (all_within range ranges apart))
    ∙ same_tests _ _ (outside_from_gaps range ranges found is x) (gaps_from_outside range ranges found is x)
    ∙ sym (in_outside ranges range x))
