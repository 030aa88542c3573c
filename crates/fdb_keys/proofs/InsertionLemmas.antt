-- A sorted list of ranges into which a range was inserted is sorted, and holds the points of both.
use Rattle.std.proofs.Common.{◌≡◌, ◌∙◌, sym, ap, refl, Bool, true, false, not, ◌&&◌, ◌||◌, List, [], ◌∷◌, ◌⊎◌, inl, inr}
use Rattle.std.proofs.Common.{⊎_elim}
use Rattle.std.proofs.lemmas.Bool.{cases_Bool, and_parts, and_from, or_cases, or_left, or_right, cond-true, cond-false}
use Rattle.std.proofs.lemmas.Bool.{both_ways, not-true, not_from_false, false_from_ne_true}
use Rattle.std.proofs.lemmas.Bool.Decides.{same_from_decides}
use Rattle.std.proofs.Math.Bool.{or_assoc, or_comm}
use Rattle.fdb_keys.specs.Points.{Point, point_lt}
use Rattle.fdb_keys.specs.Ranges.{Range, in_range, in_set, begins_after, is_apart, is_empty_range}
use Rattle.fdb_keys.specs.Texts.{is_bound}
use Rattle.fdb_keys.specs.Insertion.{lesser_point, greater_point, joined_range, inserted}
use Rattle.fdb_keys.proofs.PointOrder.{lt-itself, lt_one_way, lt_chain, le_chain, lt_le_chain, le_lt_chain}
use Rattle.fdb_keys.proofs.RangesLemmas.{in_range_parts, in_range_from}

-- the lesser of two points is at most each of them
pub lesser-left : (x y : Point) → point_lt x (lesser_point x y) ≡ false
lesser-left x y =
    ⊎_elim
    (λ before. ap (point_lt x) (cond-true _ _ _ before) ∙ lt_one_way y x before)
    (λ after. ap (point_lt x) (cond-false _ _ _ after) ∙ lt-itself x)
    (cases_Bool (point_lt y x))

pub lesser-right : (x y : Point) → point_lt y (lesser_point x y) ≡ false
lesser-right x y =
    ⊎_elim
    (λ before. ap (point_lt y) (cond-true _ _ _ before) ∙ lt-itself y)
    (λ after. ap (point_lt y) (cond-false _ _ _ after) ∙ after)
    (cases_Bool (point_lt y x))

-- the greater of two points is at least each of them
pub greater-left : (x y : Point) → point_lt (greater_point x y) x ≡ false
greater-left x y =
    ⊎_elim
    (λ before. ap (λ (z : Point). point_lt z x) (cond-true _ _ _ before) ∙ lt_one_way x y before)
    (λ after. ap (λ (z : Point). point_lt z x) (cond-false _ _ _ after) ∙ lt-itself x)
    (cases_Bool (point_lt x y))

pub greater-right : (x y : Point) → point_lt (greater_point x y) y ≡ false
greater-right x y =
    ⊎_elim
    (λ before. ap (λ (z : Point). point_lt z y) (cond-true _ _ _ before) ∙ lt-itself y)
    (λ after. ap (λ (z : Point). point_lt z y) (cond-false _ _ _ after) ∙ after)
    (cases_Bool (point_lt x y))

-- what is below both points is below the lesser
pub below_lesser : (z x y : Point) → point_lt z x ≡ true → point_lt z y ≡ true → point_lt z (lesser_point x y) ≡ true
below_lesser z x y below_x below_y =
    ⊎_elim
    (λ before. ap (point_lt z) (cond-true _ _ _ before) ∙ below_y)
    (λ after. ap (point_lt z) (cond-false _ _ _ after) ∙ below_x)
    (cases_Bool (point_lt y x))

-- what is below the greater point is below one of the two
below_greater : (z x y : Point) → point_lt z (greater_point x y) ≡ true → (point_lt z x ≡ true) ⊎ (point_lt z y ≡ true)
below_greater z x y below =
    ⊎_elim
    (λ before. inr (sym (ap (point_lt z) (cond-true _ _ _ before)) ∙ below))
    (λ after. inl (sym (ap (point_lt z) (cond-false _ _ _ after)) ∙ below))
    (cases_Bool (point_lt x y))

-- the greater of two points is below what both are below
pub greater_below : (x y z : Point) → point_lt x z ≡ true → point_lt y z ≡ true → point_lt (greater_point x y) z ≡ true
greater_below x y z x_below y_below =
    ⊎_elim
    (λ before. ap (λ (w : Point). point_lt w z) (cond-true _ _ _ before) ∙ y_below)
    (λ after. ap (λ (w : Point). point_lt w z) (cond-false _ _ _ after) ∙ x_below)
    (cases_Bool (point_lt x y))

-- from the begin of `a` on, where `b` begins no later than `a` ends
in_either : (a b : Range) (x : Point) → point_lt x a.begin ≡ false → (point_lt x a.end ≡ true)
    ⊎ (point_lt x b.end ≡ true)
    → point_lt a.end b.begin ≡ false → (in_range a x || in_range b x) ≡ true
in_either a b x from until touching =
    ⊎_elim
    (λ inside. or_left _ _ (in_range_from a x from inside))
    (λ after. or_right _ _
    (in_range_from b x (le_chain b.begin a.end x touching after)
    (⊎_elim (λ inside. absurd (both_ways _ after inside)) (λ inside. inside) until)))
    (cases_Bool (point_lt x a.end))

in_either-joined : (a b : Range) (x : Point) → point_lt b.end a.begin ≡ false → point_lt a.end b.begin ≡ false
    → in_range (joined_range a b) x ≡ true → (in_range a x || in_range b x) ≡ true
in_either-joined a b x b_reaches a_reaches inside =
    let parts = in_range_parts (joined_range a b) x inside in
    let until = below_greater x a.end b.end parts.1 in
    ⊎_elim
    (λ b_first.
    let from_b : point_lt x b.begin ≡ false = sym (ap (point_lt x) (cond-true _ _ _ b_first)) ∙ parts.0 in
    or_comm (in_range a x) (in_range b x) ∙ in_either b a x from_b (⊎_elim inr inl until) b_reaches)
    (λ a_first.
    let from_a : point_lt x a.begin ≡ false = sym (ap (point_lt x) (cond-false _ _ _ a_first)) ∙ parts.0 in
    in_either a b x from_a until a_reaches)
    (cases_Bool (point_lt b.begin a.begin))

in_joined-left : (a b : Range) (x : Point) → in_range a x ≡ true → in_range (joined_range a b) x ≡ true
in_joined-left a b x inside =
    let parts = in_range_parts a x inside in
    in_range_from (joined_range a b) x
    (le_chain (lesser_point a.begin b.begin) a.begin x (lesser-left a.begin b.begin) parts.0)
    (lt_le_chain x a.end (greater_point a.end b.end) parts.1 (greater-left a.end b.end))

in_joined-right : (a b : Range) (x : Point) → in_range b x ≡ true → in_range (joined_range a b) x ≡ true
in_joined-right a b x inside =
    let parts = in_range_parts b x inside in
    in_range_from (joined_range a b) x
    (le_chain (lesser_point a.begin b.begin) b.begin x (lesser-right a.begin b.begin) parts.0)
    (lt_le_chain x b.end (greater_point a.end b.end) parts.1 (greater-right a.end b.end))

-- two ranges that touch, joined, have the points of both and no other
pub in_joined : (a b : Range) (x : Point) → point_lt b.end a.begin ≡ false → point_lt a.end b.begin ≡ false
    → in_range (joined_range a b) x ≡ (in_range a x || in_range b x)
in_joined a b x b_reaches a_reaches =
    same_from_decides {P = (in_range a x || in_range b x) ≡ true} (in_range (joined_range a b) x)
    (in_range a x || in_range b x) (
      in_either-joined a b x b_reaches a_reaches,
      λ inside. ⊎_elim (in_joined-left a b x) (in_joined-right a b x)
          (or_cases _ _ inside),
    )
    (λ inside. inside, λ inside. inside)

-- where the carried range is put down
pub inserted-before : (carried range : Range) (ranges : List Range) → point_lt range.end carried.begin ≡ true
    → inserted carried (range ∷ ranges) ≡ range ∷ inserted carried ranges
unfolding inserted
inserted-before carried range ranges before = cond-true _ _ _ before

pub inserted-after : (carried range : Range) (ranges : List Range) → point_lt range.end carried.begin ≡ false
    → point_lt carried.end range.begin ≡ true
    → inserted carried (range ∷ ranges) ≡ carried ∷ inserted range ranges
unfolding inserted
inserted-after carried range ranges reaches after = cond-false _ _ _ reaches ∙ cond-true _ _ _ after

pub inserted-joined : (carried range : Range) (ranges : List Range) → point_lt range.end carried.begin ≡ false
    → point_lt carried.end range.begin ≡ false
    → inserted carried (range ∷ ranges) ≡ inserted (joined_range carried range) ranges
unfolding inserted
inserted-joined carried range ranges reaches reached = cond-false _ _ _ reaches ∙ cond-false _ _ _ reached

-- the list has the points of the range and of the ranges that were there
pub in_inserted : (carried : Range) (ranges : List Range) (x : Point)
    → in_set (inserted carried ranges) x ≡ (in_range carried x || in_set ranges x)
unfolding inserted
in_inserted carried [] x = refl
in_inserted carried (range ∷ ranges) x =
    ⊎_elim
    (λ before.
    ap (λ (l : List Range). in_set l x) (inserted-before carried range ranges before)
    ∙ ap (λ (t : Bool). in_range range x || t) (in_inserted carried ranges x)
    ∙ sym (or_assoc (in_range range x) (in_range carried x) (in_set ranges x))
    ∙ ap (λ (t : Bool). t || in_set ranges x) (or_comm (in_range range x) (in_range carried x))
    ∙ or_assoc (in_range carried x) (in_range range x) (in_set ranges x))
    (λ reaches.
    ⊎_elim
    (λ after.
    ap (λ (l : List Range). in_set l x) (inserted-after carried range ranges reaches after)
    ∙ ap (λ (t : Bool). in_range carried x || t) (in_inserted range ranges x))
    (λ reached.
    ap (λ (l : List Range). in_set l x) (inserted-joined carried range ranges reaches reached)
    ∙ in_inserted (joined_range carried range) ranges x
    ∙ ap (λ (t : Bool). t || in_set ranges x) (in_joined carried range x reaches reached)
    ∙ or_assoc (in_range carried x) (in_range range x) (in_set ranges x))
    (cases_Bool (point_lt carried.end range.begin)))
    (cases_Bool (point_lt range.end carried.begin))

pub apart_parts : (range : Range) (ranges : List Range) → is_apart (range ∷ ranges) ≡ true
    → (point_lt range.begin range.end ≡ true) × (begins_after range.end ranges ≡ true) × (is_apart ranges ≡ true)
apart_parts range ranges apart =
    let parts : (point_lt range.begin range.end && begins_after range.end ranges ≡ true)
    × (is_apart ranges ≡ true) = and_parts _ _ apart in
    let of_range : (point_lt range.begin range.end ≡ true)
    × (begins_after range.end ranges ≡ true) = and_parts _ _ parts.0 in
    (of_range.0, of_range.1, parts.1)

pub apart_from : (range : Range) (ranges : List Range) → point_lt range.begin range.end ≡ true
    → begins_after range.end ranges ≡ true → is_apart ranges ≡ true
    → is_apart (range ∷ ranges) ≡ true
apart_from range ranges some after apart =
    and_from (point_lt range.begin range.end && begins_after range.end ranges) (is_apart ranges)
    (and_from (point_lt range.begin range.end) (begins_after range.end ranges) some after) apart

pub begins_after-sooner : (x y : Point) (ranges : List Range) → point_lt x y ≡ true → begins_after y ranges ≡ true
    → begins_after x ranges ≡ true
begins_after-sooner x y [] sooner after = refl
begins_after-sooner x y (range ∷ ranges) sooner after = lt_chain x y range.begin sooner after

-- a range that has a point, joined with another one, has one
pub some_joined : (a b : Range) → point_lt a.begin a.end ≡ true
    → point_lt (lesser_point a.begin b.begin) (greater_point a.end b.end) ≡ true
some_joined a b some =
    lt_le_chain (lesser_point a.begin b.begin) a.end (greater_point a.end b.end)
    (le_lt_chain (lesser_point a.begin b.begin) a.begin a.end (lesser-left a.begin b.begin) some)
    (greater-left a.end b.end)

-- what comes before the range and before the list comes before what they make
begins_after-inserted : (x : Point) (carried : Range) (ranges : List Range) → point_lt x carried.begin ≡ true
    → begins_after x ranges ≡ true → is_apart ranges ≡ true
    → begins_after x (inserted carried ranges) ≡ true
unfolding inserted
begins_after-inserted x carried [] first rest apart = first
begins_after-inserted x carried (range ∷ ranges) first rest apart =
    let parts = apart_parts range ranges apart in
    ⊎_elim
    (λ before. ap (begins_after x) (inserted-before carried range ranges before) ∙ rest)
    (λ reaches.
    ⊎_elim
    (λ after. ap (begins_after x) (inserted-after carried range ranges reaches after) ∙ first)
    (λ reached.
    ap (begins_after x) (inserted-joined carried range ranges reaches reached)
    ∙ begins_after-inserted x (joined_range carried range) ranges (below_lesser x carried.begin range.begin first rest)
    (begins_after-sooner x range.end ranges (lt_chain x range.begin range.end rest parts.0) parts.1) parts.2)
    (cases_Bool (point_lt carried.end range.begin)))
    (cases_Bool (point_lt range.end carried.begin))

-- a range that has a point is inserted into a sorted list, and the list stays one
pub apart-inserted : (carried : Range) (ranges : List Range) → point_lt carried.begin carried.end ≡ true
    → is_apart ranges ≡ true → is_apart (inserted carried ranges) ≡ true
unfolding inserted
apart-inserted carried [] some apart = apart_from carried [] some refl refl
apart-inserted carried (range ∷ ranges) some apart =
    let parts = apart_parts range ranges apart in
    ⊎_elim
    (λ before.
    ap is_apart (inserted-before carried range ranges before)
    ∙ apart_from range (inserted carried ranges) parts.0
    (begins_after-inserted range.end carried ranges before parts.1 parts.2)
    (apart-inserted carried ranges some parts.2))
    (λ reaches.
    ⊎_elim
    (λ after.
    ap is_apart (inserted-after carried range ranges reaches after)
    ∙ apart_from carried (inserted range ranges) some
    (begins_after-inserted carried.end range ranges after
    (begins_after-sooner carried.end range.end ranges (lt_chain carried.end range.begin range.end after parts.0)
    parts.1) parts.2)
    (apart-inserted range ranges parts.0 parts.2))
    (λ reached. ap is_apart (inserted-joined carried range ranges reaches reached)
    ∙ apart-inserted (joined_range carried range) ranges (some_joined carried range some) parts.2)
    (cases_Bool (point_lt carried.end range.begin)))
    (cases_Bool (point_lt range.end carried.begin))

-- a range without a point has no point to add
pub in_range-empty : (range : Range) (x : Point) → is_empty_range range ≡ true → in_range range x ≡ false
in_range-empty range x empty =
    false_from_ne_true _ (λ inside.
    let parts = in_range_parts range x inside in
    both_ways _ (not-true _ empty) (le_lt_chain range.begin x range.end parts.0 parts.1))

-- the begin and the end are bounds in their order
abbrev pub HasLegalBounds : Range → Type 0
HasLegalBounds range = (is_bound range.begin && is_bound range.end && not (point_lt range.end range.begin)) ≡ true

pub is_bound-lesser : (x y : Point) → is_bound x ≡ true → is_bound y ≡ true → is_bound (lesser_point x y) ≡ true
is_bound-lesser x y of_x of_y =
    ⊎_elim
    (λ before. ap is_bound (cond-true (point_lt y x) y x before) ∙ of_y)
    (λ after. ap is_bound (cond-false (point_lt y x) y x after) ∙ of_x)
    (cases_Bool (point_lt y x))

pub is_bound-greater : (x y : Point) → is_bound x ≡ true → is_bound y ≡ true → is_bound (greater_point x y) ≡ true
is_bound-greater x y of_x of_y =
    ⊎_elim
    (λ before. ap is_bound (cond-true (point_lt x y) y x before) ∙ of_y)
    (λ after. ap is_bound (cond-false (point_lt x y) y x after) ∙ of_x)
    (cases_Bool (point_lt x y))

-- two legal ranges, joined, are a legal range
pub joined_is_legal : (a b : Range) → HasLegalBounds a → HasLegalBounds b → HasLegalBounds (joined_range a b)
joined_is_legal a b legal_a legal_b =
    let parts_a : (is_bound a.begin && is_bound a.end ≡ true)
    × (not (point_lt a.end a.begin) ≡ true) = and_parts _ _ legal_a in
    let parts_b : (is_bound b.begin && is_bound b.end ≡ true)
    × (not (point_lt b.end b.begin) ≡ true) = and_parts _ _ legal_b in
    let bounds_a : (is_bound a.begin ≡ true) × (is_bound a.end ≡ true) = and_parts _ _ parts_a.0 in
    let bounds_b : (is_bound b.begin ≡ true) × (is_bound b.end ≡ true) = and_parts _ _ parts_b.0 in
    let ordered : point_lt (greater_point a.end b.end) (lesser_point a.begin b.begin) ≡ false =
    le_chain (lesser_point a.begin b.begin) a.begin (greater_point a.end b.end) (lesser-left a.begin b.begin)
    (le_chain a.begin a.end (greater_point a.end b.end) (not-true _ parts_a.1) (greater-left a.end b.end))
    in
    and_from (is_bound (lesser_point a.begin b.begin) && is_bound (greater_point a.end b.end)) _
    (and_from (is_bound (lesser_point a.begin b.begin)) (is_bound (greater_point a.end b.end))
    (is_bound-lesser a.begin b.begin bounds_a.0 bounds_b.0) (is_bound-greater a.end b.end bounds_a.1 bounds_b.1))
    (not_from_false _ ordered)
