-- What is left of ranges without the points of another one is sorted, and has just the points that are left.
use Rattle.std.proofs.Common.{◌≡◌, ◌∙◌, sym, ap, refl, Bool, true, false, not, ◌&&◌, ◌||◌, List, [], ◌∷◌, ◌++◌, ⊎_elim}
use Rattle.std.specs.Cmp.{both_ways as same_tests}
use Rattle.std.proofs.Math.Bool.{or-false, and-or_distrib_right}
use Rattle.std.proofs.lemmas.Bool.{cases_Bool, and_left, and_right, and_parts, and_from, or_cases, or_left, or_right}
use Rattle.std.proofs.lemmas.Bool.{both_ways, cond-true, cond-false, not-true, not_from_false, false_from_ne_true}
use Rattle.std.proofs.lemmas.List.{append_assoc, append-nil}
use Rattle.std.proofs.lemmas.List.Folds.{list_any-append}
use Rattle.fdb_keys.specs.Points.{Point, point_lt}
use Rattle.fdb_keys.specs.Ranges.{Range, in_range, in_set, ranges_meet, begins_after, is_apart}
use Rattle.fdb_keys.specs.Removal.{range_between, range_minus, without_range}
use Rattle.fdb_keys.specs.Texts.{is_bound}
use Rattle.fdb_keys.proofs.PointOrder.{lt_one_way, lt_chain, le_chain}
use Rattle.fdb_keys.proofs.RangesLemmas.{in_range_parts, in_range_from, meet_from_common}
use Rattle.fdb_keys.proofs.InsertionLemmas.{apart_parts, apart_from, begins_after-sooner, in_range-empty}
use Rattle.fdb_keys.proofs.InsertionLemmas.{HasLegalBounds}

-- ---- one range, or none
pub in_between : (begin end x : Point)
    → in_set (range_between begin end) x ≡ in_range (record { begin = begin; end = end }) x
in_between begin end x =
    ⊎_elim
    (λ some. ap (λ (l : List Range). in_set l x) (cond-true _ _ _ some)
    ∙ or-false (in_range (record { begin = begin; end = end }) x))
    (λ none. ap (λ (l : List Range). in_set l x) (cond-false _ _ _ none)
    ∙ sym (in_range-empty (record { begin = begin; end = end }) x (not_from_false _ none)))
    (cases_Bool (point_lt begin end))

pub between_is_legal : (begin end : Point) → is_bound begin ≡ true → is_bound end ≡ true → point_lt begin end ≡ true
    → HasLegalBounds (record { begin = begin; end = end })
between_is_legal begin end of_begin of_end some =
    and_from (is_bound begin && is_bound end) _ (and_from (is_bound begin) (is_bound end) of_begin of_end)
    (not_from_false _ (lt_one_way begin end some))

-- ranges come after a point, and are apart, with one before them that may have no point
pub begins_after-between : (x begin end : Point) (rest : List Range)
    → (point_lt begin end ≡ true → point_lt x begin ≡ true) → begins_after x rest ≡ true
    → begins_after x (range_between begin end ++ rest) ≡ true
begins_after-between x begin end rest first after =
    ⊎_elim
    (λ some. ap (λ (l : List Range). begins_after x (l ++ rest)) (cond-true _ _ _ some) ∙ first some)
    (λ none. ap (λ (l : List Range). begins_after x (l ++ rest)) (cond-false _ _ _ none) ∙ after)
    (cases_Bool (point_lt begin end))

pub apart-between : (begin end : Point) (rest : List Range)
    → (point_lt begin end ≡ true → begins_after end rest ≡ true) → is_apart rest ≡ true
    → is_apart (range_between begin end ++ rest) ≡ true
apart-between begin end rest after apart =
    ⊎_elim
    (λ some. ap (λ (l : List Range). is_apart (l ++ rest)) (cond-true _ _ _ some)
    ∙ apart_from (record { begin = begin; end = end }) rest some (after some) apart)
    (λ none. ap (λ (l : List Range). is_apart (l ++ rest)) (cond-false _ _ _ none) ∙ apart)
    (cases_Bool (point_lt begin end))

-- ---- a range without another one
-- where two ranges meet, each begins before both ends
meeting : (a b : Range) → ranges_meet a b ≡ true → (point_lt a.begin b.end ≡ true) × (point_lt b.begin a.end ≡ true)
    × (point_lt b.begin b.end ≡ true)
meeting a b meet =
    let parts : (point_lt a.begin a.end && point_lt a.begin b.end ≡ true)
    × (point_lt b.begin a.end && point_lt b.begin b.end ≡ true) = and_parts _ _ meet in
    let of_a : (point_lt a.begin a.end ≡ true) × (point_lt a.begin b.end ≡ true) = and_parts _ _ parts.0 in
    let of_b : (point_lt b.begin a.end ≡ true) × (point_lt b.begin b.end ≡ true) = and_parts _ _ parts.1 in
    (of_a.1, of_b.0, of_b.1)

-- what comes before the other range, and what comes after it
abbrev parts_of : Range → Range → List Range
parts_of a b = range_between a.begin b.begin ++ range_between b.end a.end

minus-meeting : (a b : Range) → ranges_meet a b ≡ true → range_minus a b ≡ parts_of a b
minus-meeting a b meet = cond-true _ _ _ meet

minus-clear : (a b : Range) → ranges_meet a b ≡ false → range_minus a b ≡ range_between a.begin a.end
minus-clear a b clear = cond-false _ _ _ clear

abbrev before : Range → Range → Range
before a b = record { begin = a.begin; end = b.begin }

abbrev after : Range → Range → Range
after a b = record { begin = b.end; end = a.end }

in_parts : (a b : Range) (x : Point)
    → in_set (parts_of a b) x ≡ (in_range (before a b) x || in_range (after a b) x)
in_parts a b x =
    list_any-append (λ r. in_range r x) (range_between a.begin b.begin) (range_between b.end a.end)
    ∙ ap (λ (t : Bool). t || in_set (range_between b.end a.end) x) (in_between a.begin b.begin x)
    ∙ ap (λ (t : Bool). in_range (before a b) x || t) (in_between b.end a.end x)

left_from_parts : (a b : Range) (x : Point) → ranges_meet a b ≡ true
    → (in_range (before a b) x || in_range (after a b) x) ≡ true → (in_range a x && not (in_range b x)) ≡ true
left_from_parts a b x meet inside =
    let ordered = meeting a b meet in
    ⊎_elim
    (λ here.
    let parts = in_range_parts (before a b) x here in
    and_from (in_range a x) (not (in_range b x))
    (in_range_from a x parts.0 (lt_chain x b.begin a.end parts.1 ordered.1))
    (not_from_false _ (and_left _ _ (ap not parts.1))))
    (λ here.
    let parts = in_range_parts (after a b) x here in
    and_from (in_range a x) (not (in_range b x))
    (in_range_from a x (le_chain a.begin b.end x (lt_one_way a.begin b.end ordered.0) parts.0) parts.1)
    (not_from_false _ (and_right _ _ parts.0)))
    (or_cases _ _ inside)

parts_from_left : (a b : Range) (x : Point) → (in_range a x && not (in_range b x)) ≡ true
    → (in_range (before a b) x || in_range (after a b) x) ≡ true
parts_from_left a b x left =
    let both : (in_range a x ≡ true) × (not (in_range b x) ≡ true) = and_parts _ _ left in
    let of_a = in_range_parts a x both.0 in
    ⊎_elim
    (λ sooner. or_left _ _ (in_range_from (before a b) x of_a.0 sooner))
    (λ later. or_right _ _
    (in_range_from (after a b) x (false_from_ne_true _ (λ until.
    both_ways _ (not-true _ both.1) (in_range_from b x later until))) of_a.1))
    (cases_Bool (point_lt x b.begin))

-- a point is left exactly where it lies in the range and not in the other one
pub in_minus : (a b : Range) (x : Point) → in_set (range_minus a b) x ≡ (in_range a x && not (in_range b x))
in_minus a b x =
    ⊎_elim
    (λ meet.
    ap (λ (l : List Range). in_set l x) (minus-meeting a b meet)
    ∙ in_parts a b x
    ∙ same_tests _ _ (left_from_parts a b x meet) (parts_from_left a b x))
    (λ clear.
    ap (λ (l : List Range). in_set l x) (minus-clear a b clear)
    ∙ in_between a.begin a.end x
    ∙ same_tests _ _
    (λ inside. and_from (in_range a x) (not (in_range b x)) inside
    (not_from_false _ (false_from_ne_true _ (λ there. both_ways _ clear (meet_from_common a b x inside there)))))
    (λ left. let both : (in_range a x ≡ true) × (not (in_range b x) ≡ true) = and_parts _ _ left in both.0))
    (cases_Bool (ranges_meet a b))

-- what is left of a range, with ranges that come after the range
apart-minus_then : (a b : Range) (rest : List Range) → begins_after a.end rest ≡ true → is_apart rest ≡ true
    → is_apart (range_minus a b ++ rest) ≡ true
apart-minus_then a b rest later apart =
    ⊎_elim
    (λ meet.
    let ordered = meeting a b meet in
    ap (λ (l : List Range). is_apart (l ++ rest)) (minus-meeting a b meet)
    ∙ ap is_apart (append_assoc (range_between a.begin b.begin) (range_between b.end a.end) rest)
    ∙ apart-between a.begin b.begin (range_between b.end a.end ++ rest)
    (λ some. begins_after-between b.begin b.end a.end rest (λ right. ordered.2)
    (begins_after-sooner b.begin a.end rest ordered.1 later))
    (apart-between b.end a.end rest (λ right. later) apart))
    (λ clear.
    ap (λ (l : List Range). is_apart (l ++ rest)) (minus-clear a b clear)
    ∙ apart-between a.begin a.end rest (λ some. later) apart)
    (cases_Bool (ranges_meet a b))

begins_after-minus : (x : Point) (a b : Range) (rest : List Range) → point_lt x a.begin ≡ true
    → begins_after x rest ≡ true → begins_after x (range_minus a b ++ rest) ≡ true
begins_after-minus x a b rest first later =
    ⊎_elim
    (λ meet.
    ap (λ (l : List Range). begins_after x (l ++ rest)) (minus-meeting a b meet)
    ∙ ap (begins_after x) (append_assoc (range_between a.begin b.begin) (range_between b.end a.end) rest)
    ∙ begins_after-between x a.begin b.begin (range_between b.end a.end ++ rest) (λ some. first)
    (begins_after-between x b.end a.end rest
    (λ right. lt_chain x a.begin b.end first (meeting a b meet).0) later))
    (λ clear.
    ap (λ (l : List Range). begins_after x (l ++ rest)) (minus-clear a b clear)
    ∙ begins_after-between x a.begin a.end rest (λ some. first) later)
    (cases_Bool (ranges_meet a b))

pub apart-minus : (a b : Range) → is_apart (range_minus a b) ≡ true
apart-minus a b = ap is_apart (sym (append-nil (range_minus a b))) ∙ apart-minus_then a b [] refl refl

-- ---- a set without a range
pub in_without : (range : Range) (ranges : List Range) (x : Point)
    → in_set (without_range range ranges) x ≡ (in_set ranges x && not (in_range range x))
in_without range [] x = refl
in_without range (held ∷ ranges) x =
    list_any-append (λ r. in_range r x) (range_minus held range) (without_range range ranges)
    ∙ ap (λ (t : Bool). t || in_set (without_range range ranges) x) (in_minus held range x)
    ∙ ap (λ (t : Bool). (in_range held x && not (in_range range x)) || t) (in_without range ranges x)
    ∙ sym (and-or_distrib_right (in_range held x) (in_set ranges x) (not (in_range range x)))

begins_after-without : (x : Point) (range : Range) (ranges : List Range) → begins_after x ranges ≡ true
    → is_apart ranges ≡ true → begins_after x (without_range range ranges) ≡ true
begins_after-without x range [] later apart = refl
begins_after-without x range (held ∷ ranges) later apart =
    let parts = apart_parts held ranges apart in
    begins_after-minus x held range (without_range range ranges) later
    (begins_after-without x range ranges
    (begins_after-sooner x held.end ranges (lt_chain x held.begin held.end later parts.0) parts.1) parts.2)

pub apart-without : (range : Range) (ranges : List Range) → is_apart ranges ≡ true
    → is_apart (without_range range ranges) ≡ true
apart-without range [] apart = refl
apart-without range (held ∷ ranges) apart =
    let parts = apart_parts held ranges apart in
    apart-minus_then held range (without_range range ranges)
    (begins_after-without held.end range ranges parts.1 parts.2) (apart-without range ranges parts.2)
