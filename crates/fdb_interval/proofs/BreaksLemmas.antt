-- Breakpoints in their order: the value at a point, and what a test of the points picks of them.
use Rattle.std.proofs.Common.{◌≡◌, ◌∙◌, sym, ap, refl, subst, Bool, true, false, not, ◌&&◌, [], ◌∷◌, ◌++◌, ⊎_elim}
use Rattle.std.proofs.Common.{Less, Equal, Greater, if◌then◌else◌}
use Rattle.std.specs.BTreeMap.{is_at}
use Rattle.std.specs.BTreeMap.Range.{entries_between, range_contains}
use Rattle.std.specs.Cmp.Lexicographic.{slice_cmp}
use Rattle.std.specs.List.{AllByRecursion, filter}
use Rattle.std.specs.List.Sorted.{IsStrictlySortedBy}
use Rattle.std.specs.Map.{keys_of}
use Rattle.std.specs.Ordering.{nat_cmp, is_eq, is_lt, ordering_reverse}
use Rattle.std.specs.declared.cmp.Ordering.{Ordering}
use Rattle.std.specs.declared.ops.Bound.TheVariants.{Included, Excluded, Unbounded}
use Rattle.std.proofs.lemmas.Bool.{cases_Bool, cond-true, cond-false, not_from_true, not_from_false, not-true}
use Rattle.std.proofs.lemmas.Cmp.{nat_list_cmp_total}
use Rattle.fdb_keys.specs.Points.{Point, point_lt}
use Rattle.fdb_keys.proofs.Exports.{le_chain, le_lt_chain, lt_chain, lt_le_chain, lt_one_way, not_past}
use Rattle.fdb_keys.proofs.Exports.{all-weaken, ordered-before}
use Rattle.fdb_interval.specs.Breakpoints.{Breaks, value_from, last_value, breaks_before, AreRising}

-- what holds of each breakpoint
pub all_imply : {V : Type 0} (P Q : Point × V → Type 0) → ((entry : Point × V) → P entry → Q entry) → (es : Breaks V)
    → AllByRecursion P es → AllByRecursion Q es
all_imply = all-weaken

-- the keys of a map rise
pub later_from_sorted : {V : Type 0} (x : Point) (es : Breaks V)
    → AllByRecursion (λ y. slice_cmp nat_cmp x y ≡ Less) (keys_of es)
    → AllByRecursion (λ (later : Point × V). point_lt x later.0 ≡ true) es
unfolding point_lt
later_from_sorted x [] all = tt
later_from_sorted x (e ∷ es) all = (ap is_lt all.0, later_from_sorted x es all.1)

pub rising_from_sorted : {V : Type 0} (es : Breaks V) → IsStrictlySortedBy (slice_cmp nat_cmp) (keys_of es)
    → AreRising es
unfolding IsStrictlySortedBy
rising_from_sorted [] sorted = tt
rising_from_sorted (e ∷ es) sorted = (later_from_sorted e.0 es sorted.0, rising_from_sorted es sorted.1)

-- ---- the value at a point
pub value-append : {V : Type 0} (before : V) (es fs : Breaks V) (x : Point)
    → value_from before (es ++ fs) x ≡ value_from (value_from before es x) fs x
value-append before [] fs x = refl
value-append before (e ∷ es) fs x = value-append (if point_lt x e.0 then before else e.1) es fs x

-- breakpoints after the point don't count
pub value-after : {V : Type 0} (before : V) (es : Breaks V) (x : Point)
    → AllByRecursion (λ (e : Point × V). point_lt x e.0 ≡ true) es → value_from before es x ≡ before
value-after before [] x after = refl
value-after before (e ∷ es) x after =
    ap (λ n. value_from n es x) (cond-true _ _ _ after.0) ∙ value-after before es x after.1

-- and of those up to it the last one counts
pub value-reached : {V : Type 0} (before : V) (es : Breaks V) (x : Point)
    → AllByRecursion (λ (e : Point × V). point_lt x e.0 ≡ false) es → value_from before es x ≡ last_value before es
value-reached before [] x reached = refl
value-reached before (e ∷ es) x reached =
    ap (λ n. value_from n es x) (cond-false _ _ _ reached.0) ∙ value-reached e.1 es x reached.1

pub last-append : {V : Type 0} (before : V) (es fs : Breaks V)
    → last_value before (es ++ fs) ≡ last_value (last_value before es) fs
last-append before [] fs = refl
last-append before (e ∷ es) fs = last-append e.1 es fs

-- ---- the breakpoints whose points pass a test
abbrev pub sift : {V : Type 0} → (Point → Bool) → Breaks V → Breaks V
sift p es = filter (λ entry. p entry.0) es

pub sift-true : {V : Type 0} (p : Point → Bool) (e : Point × V) (es : Breaks V) → p e.0 ≡ true
    → sift p (e ∷ es) ≡ e ∷ sift p es
sift-true p e es passes = cond-true _ _ _ passes

pub sift-false : {V : Type 0} (p : Point → Bool) (e : Point × V) (es : Breaks V) → p e.0 ≡ false
    → sift p (e ∷ es) ≡ sift p es
sift-false p e es fails = cond-false _ _ _ fails

pub sift-all : {V : Type 0} (p : Point → Bool) (es : Breaks V)
    → AllByRecursion (λ (e : Point × V). p e.0 ≡ true) es → sift p es ≡ es
sift-all p [] all = refl
sift-all {V} p (e ∷ es) all = sift-true p e es all.0 ∙ ap (λ (l : Breaks V). e ∷ l) (sift-all p es all.1)

pub sift-none : {V : Type 0} (p : Point → Bool) (es : Breaks V)
    → AllByRecursion (λ (e : Point × V). p e.0 ≡ false) es → sift p es ≡ []
sift-none p [] none = refl
sift-none p (e ∷ es) none = sift-false p e es none.0 ∙ sift-none p es none.1

-- what a test says of what it picks
pub all-sift : {V : Type 0} (p : Point → Bool) (P : Point → Type 0) → ((x : Point) → p x ≡ true → P x) → (es : Breaks V)
    → AllByRecursion (λ (e : Point × V). P e.0) (sift p es)
all-sift p P says [] = tt
all-sift {V} p P says (e ∷ es) = ⊎_elim
    (λ passes. subst (AllByRecursion (λ (f : Point × V). P f.0)) (sym (sift-true p e es passes))
    (says e.0 passes, all-sift p P says es))
    (λ fails. subst (AllByRecursion (λ (f : Point × V). P f.0)) (sym (sift-false p e es fails)) (all-sift p P says es))
    (cases_Bool (p e.0))

pub all_kept : {V : Type 0} (p : Point → Bool) (P : Point × V → Type 0) (es : Breaks V) → AllByRecursion P es
    → AllByRecursion P (sift p es)
all_kept p P [] all = tt
all_kept p P (e ∷ es) all = ⊎_elim
    (λ passes. subst (AllByRecursion P) (sym (sift-true p e es passes)) (all.0, all_kept p P es all.1))
    (λ fails. subst (AllByRecursion P) (sym (sift-false p e es fails)) (all_kept p P es all.1))
    (cases_Bool (p e.0))

pub rising-sift : {V : Type 0} (p : Point → Bool) (es : Breaks V) → AreRising es → AreRising (sift p es)
rising-sift p [] rising = tt
rising-sift p (e ∷ es) rising = ⊎_elim
    (λ passes. subst AreRising (sym (sift-true p e es passes))
    (all_kept p (λ later. point_lt e.0 later.0 ≡ true) es rising.0, rising-sift p es rising.1))
    (λ fails. subst AreRising (sym (sift-false p e es fails)) (rising-sift p es rising.1))
    (cases_Bool (p e.0))

-- the value at a point is that of the last breakpoint up to it
pub value-by-last : {V : Type 0} (before : V) (es : Breaks V) (x : Point)
    → value_from before es x ≡ last_value before (sift (λ y. not (point_lt x y)) es)
value-by-last before [] x = refl
value-by-last before (e ∷ es) x = ⊎_elim
    (λ after.
    ap (λ n. value_from n es x) (cond-true _ _ _ after)
    ∙ value-by-last before es x
    ∙ sym (ap (last_value before) (sift-false (λ y. not (point_lt x y)) e es (not_from_true _ after))))
    (λ reached.
    ap (λ n. value_from n es x) (cond-false _ _ _ reached)
    ∙ value-by-last e.1 es x
    ∙ sym (ap (last_value before) (sift-true (λ y. not (point_lt x y)) e es (not_from_false _ reached))))
    (cases_Bool (point_lt x e.0))

-- ---- two tests that cut the points in two, those that pass the second one coming last
abbrev pub IsCut : (Point → Bool) → (Point → Bool) → Type 0
IsCut q p = ((x : Point) → q x ≡ not (p x)) × ((x y : Point) → p x ≡ true → point_lt x y ≡ true → p y ≡ true)

pub cut_in_two : {V : Type 0} (q p : Point → Bool) → IsCut q p → (es : Breaks V) → AreRising es
    → es ≡ sift q es ++ sift p es
cut_in_two q p cut [] rising = refl
cut_in_two {V} q p cut (e ∷ es) rising = ⊎_elim
    (λ behind.
    let later : AllByRecursion (λ (f : Point × V). p f.0 ≡ true) es =
    all_imply (λ f. point_lt e.0 f.0 ≡ true) (λ f. p f.0 ≡ true) (λ f after. cut.1 e.0 f.0 behind after) es rising.0 in
    let none : sift q (e ∷ es) ≡ [] = sift-none q (e ∷ es) (
      cut.0 e.0 ∙ not_from_true _ behind,
      all_imply (λ f. p f.0 ≡ true) (λ f. q f.0 ≡ false) (λ f passes. cut.0 f.0 ∙ not_from_true _ passes) es later,
    ) in
    sym (ap (λ (l : Breaks V). l ++ sift p (e ∷ es)) none ∙ sift-all p (e ∷ es) (behind, later)))
    (λ front.
    ap (λ (l : Breaks V). e ∷ l) (cut_in_two q p cut es rising.1)
    ∙ sym (ap (λ (l : Breaks V). l ++ sift p (e ∷ es)) (sift-true q e es (cut.0 e.0 ∙ not_from_false _ front))
    ∙ ap (λ (l : Breaks V). (e ∷ sift q es) ++ l) (sift-false p e es front)))
    (cases_Bool (p e.0))

-- what passes two tests passes the third
pub sift_twice : {V : Type 0} (p q r : Point → Bool) → ((x : Point) → (q x && p x) ≡ r x) → (es : Breaks V)
    → sift p (sift q es) ≡ sift r es
sift_twice p q r both [] = refl
sift_twice {V} p q r both (e ∷ es) = ⊎_elim
    (λ passes.
    let same : r e.0 ≡ p e.0 = sym (both e.0) ∙ ap (λ (t : Bool). t && p e.0) passes in
    ap (sift p) (sift-true q e es passes)
    ∙ ap (λ (l : Breaks V). if p e.0 then e ∷ l else l) (sift_twice p q r both es)
    ∙ sym (ap (λ (t : Bool). if t then e ∷ sift r es else sift r es) same))
    (λ fails.
    ap (sift p) (sift-false q e es fails)
    ∙ sift_twice p q r both es
    ∙ sym (sift-false r e es (sym (both e.0) ∙ ap (λ (t : Bool). t && p e.0) fails)))
    (cases_Bool (q e.0))

-- what passes a test is cut too
pub cut_within : {V : Type 0} (r q p s t : Point → Bool) → IsCut q p → ((x : Point) → (r x && q x) ≡ s x)
    → ((x : Point) → (r x && p x) ≡ t x) → (es : Breaks V) → AreRising es → sift r es ≡ sift s es ++ sift t es
cut_within {V} r q p s t cut front back es rising =
    cut_in_two q p cut (sift r es) (rising-sift r es rising)
    ∙ ap (λ (l : Breaks V). l ++ sift p (sift r es)) (sift_twice q r s front es)
    ∙ ap (λ (l : Breaks V). sift s es ++ l) (sift_twice p r t back es)

-- ---- where points lie
abbrev pub before : Point → Point → Bool
before x y = point_lt y x

abbrev pub from : Point → Point → Bool
from x y = not (point_lt y x)

abbrev pub up_to : Point → Point → Bool
up_to x y = not (point_lt x y)

abbrev pub beyond : Point → Point → Bool
beyond x y = point_lt x y

abbrev pub at : Point → Point → Bool
at x y = is_at (slice_cmp nat_cmp x) y

abbrev pub inside : Point → Point → Point → Bool
inside begin end y = range_contains (slice_cmp nat_cmp) (Excluded begin) (Excluded end) y

not_twice : (t : Bool) → t ≡ not (not t)
not_twice true = refl
not_twice false = refl

pub cut_from : (x : Point) → IsCut (before x) (from x)
cut_from x = (
  λ y. not_twice (point_lt y x),
  λ y z reached later.
      not_from_false _ (lt_one_way x z (le_lt_chain x y z (not-true _ reached) later)),
)

pub cut_beyond : (x : Point) → IsCut (up_to x) (beyond x)
cut_beyond x = (λ y. refl, λ y z after later. lt_chain x y z after later)

pub at-is : (x y : Point) → (from x y && up_to x y) ≡ at x y
unfolding point_lt
at-is x y =
    ap (λ o. not (is_lt o) && not (is_lt (slice_cmp nat_cmp x y))) (nat_list_cmp_total.antisymm y x)
    ∙ tied (slice_cmp nat_cmp x y)
  where
    tied : (o : Ordering) → (not (is_lt (ordering_reverse o)) && not (is_lt o)) ≡ is_eq o
    tied Less = refl
    tied Equal = refl
    tied Greater = refl

pub inside-is : (begin end x : Point) → inside begin end x ≡ (point_lt begin x && point_lt x end)
unfolding point_lt
inside-is begin end x = ap (λ (t : Bool). is_lt (slice_cmp nat_cmp begin x) && t) (not_past x end)

pub absorbed : (s t : Bool) → (t ≡ true → s ≡ true) → (s && t) ≡ t
absorbed s true follows = ap (λ (u : Bool). u && true) (follows refl)
absorbed true false follows = refl
absorbed false false follows = refl

-- the breakpoints before a range, at its begin, inside it, at its end, and beyond it
pub five_parts : {V : Type 0} (begin end : Point) → point_lt begin end ≡ true → (es : Breaks V) → AreRising es
    → es ≡ sift (before begin) es
    ++ (sift (at begin) es ++ (sift (inside begin end) es ++ (sift (at end) es ++ sift (beyond end) es)))
five_parts {V} begin end some es rising =
    cut_in_two (before begin) (from begin) (cut_from begin) es rising
    ∙ ap (λ (l : Breaks V). sift (before begin) es ++ l)
    (cut_within (from begin) (up_to begin) (beyond begin) (at begin) (beyond begin) (cut_beyond begin) (at-is begin)
    (λ y. absorbed _ _ (λ after. not_from_false _ (lt_one_way begin y after))) es rising
    ∙ ap (λ (l : Breaks V). sift (at begin) es ++ l)
    (cut_within (beyond begin) (before end) (from end) (inside begin end) (from end) (cut_from end)
    (λ y. sym (inside-is begin end y))
    (λ y. absorbed _ _ (λ reached. lt_le_chain begin end y some (not-true _ reached))) es rising
    ∙ ap (λ (l : Breaks V). sift (inside begin end) es ++ l)
    (cut_within (from end) (up_to end) (beyond end) (at end) (beyond end) (cut_beyond end) (at-is end)
    (λ y. absorbed _ _ (λ after. not_from_false _ (lt_one_way end y after))) es rising)))

-- before the range nothing changes by what lies in it or behind it
pub value-before : {V : Type 0} (start : V) (es : Breaks V) (begin x : Point) → AreRising es → point_lt x begin ≡ true
    → value_from start es x ≡ value_from start (sift (before begin) es) x
value-before {V} start es begin x rising sooner =
    ap (λ (l : Breaks V). value_from start l x) (cut_in_two (before begin) (from begin) (cut_from begin) es rising)
    ∙ value-append start (sift (before begin) es) (sift (from begin) es) x
    ∙ value-after _ (sift (from begin) es) x
    (all-sift (from begin) (λ y. point_lt x y ≡ true)
    (λ y reached. lt_le_chain x begin y sooner (not-true _ reached)) es)

-- from the range's end on, the value there counts, and what lies behind it
pub value-behind : {V : Type 0} (start : V) (es : Breaks V) (end x : Point) → AreRising es → point_lt x end ≡ false
    → value_from start es x ≡ value_from (value_from start es end) (sift (beyond end) es) x
value-behind {V} start es end x rising later =
    ap (λ (l : Breaks V). value_from start l x) (cut_in_two (up_to end) (beyond end) (cut_beyond end) es rising)
    ∙ value-append start (sift (up_to end) es) (sift (beyond end) es) x
    ∙ ap (λ n. value_from n (sift (beyond end) es) x)
    (value-reached start (sift (up_to end) es) x
    (all-sift (up_to end) (λ y. point_lt x y ≡ false) (λ y by_end. le_chain y end x (not-true _ by_end) later) es)
    ∙ sym (value-by-last start es end))

-- ---- what a look-up finds
pub last-one : {V : Type 0} (start : V) (es : Breaks V) (e : Point × V) → last_value start (es ++ e ∷ []) ≡ e.1
last-one start es e = last-append start es (e ∷ [])

pub value-last-some : {V : Type 0} (start : V) (es front : Breaks V) (e : Point × V) (x : Point)
    → entries_between (slice_cmp nat_cmp) Unbounded (Included x) es ≡ front ++ e ∷ [] → e.1 ≡ value_from start es x
unfolding point_lt
value-last-some start es front e x found =
    sym (value-by-last start es x ∙ ap (last_value start) found ∙ last-one start front e)

pub value-last-none : {V : Type 0} (start : V) (es : Breaks V) (x : Point)
    → entries_between (slice_cmp nat_cmp) Unbounded (Included x) es ≡ [] → start ≡ value_from start es x
unfolding point_lt
value-last-none start es x found = sym (value-by-last start es x ∙ ap (last_value start) found)

-- before a point by either test
pub before-is : {V : Type 0} (es : Breaks V) (x : Point)
    → breaks_before x es ≡ entries_between (slice_cmp nat_cmp) Unbounded (Excluded x) es
before-is {V} es x = sym (λ i. filter (λ (entry : Point × V). not_past entry.0 x i) es)

pub before-last-some : {V : Type 0} (start : V) (es front : Breaks V) (e : Point × V) (x : Point)
    → entries_between (slice_cmp nat_cmp) Unbounded (Excluded x) es ≡ front ++ e ∷ []
    → e.1 ≡ last_value start (breaks_before x es)
before-last-some start es front e x found =
    sym (ap (last_value start) (before-is es x ∙ found) ∙ last-one start front e)

pub before-last-none : {V : Type 0} (start : V) (es : Breaks V) (x : Point)
    → entries_between (slice_cmp nat_cmp) Unbounded (Excluded x) es ≡ [] → start ≡ last_value start (breaks_before x es)
before-last-none start es x found = sym (ap (last_value start) (before-is es x ∙ found))

-- ---- what comes before one of them
pub all_sooner : {V : Type 0} (front : Breaks V) (e : Point × V) (back : Breaks V) → AreRising (front ++ e ∷ back)
    → AllByRecursion (λ (f : Point × V). point_lt f.0 e.0 ≡ true) front
all_sooner {V} = ordered-before (λ (first later : Point × V). point_lt first.0 later.0 ≡ true)
