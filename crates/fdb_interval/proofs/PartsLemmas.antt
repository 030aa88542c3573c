-- What a breakpoint that is put in or taken out leaves of those that a test picks.
use Rattle.std.proofs.Common.{◌≡◌, ◌∙◌, sym, ap, refl, subst, Bool, true, false, List, [], ◌∷◌, ⊎_elim, ◌⊎◌, inl}
use Rattle.std.proofs.Common.{inr, None}
use Rattle.std.proofs.Common.{is_some, Less, Equal, Greater, if◌then◌else◌}
use Rattle.std.specs.BTreeMap.{insert_entry, is_at}
use Rattle.std.specs.Cmp.Lexicographic.{slice_cmp}
use Rattle.std.specs.FinMap.{nat_cmp-IsAntisymmetric, slice_cmp-IsAntisymmetric}
use Rattle.std.specs.List.{AllByRecursion}
use Rattle.std.specs.Map.{keys_of, lookup, remove_entry}
use Rattle.std.specs.Ordering.{nat_cmp, is_eq, is_lt, match_ordering, ordering_reverse}
use Rattle.std.specs.declared.cmp.Ordering.{Ordering}
use Rattle.std.proofs.lemmas.Bool.{cases_Bool, both_ways, cond-true, cond-false}
use Rattle.std.proofs.lemmas.Cmp.{nat_list_cmp_total, tied_itself}
use Rattle.fdb_keys.specs.Points.{Point, point_lt}
use Rattle.fdb_keys.proofs.Exports.{lt-itself, lt_chain, cmp_less, cmp_greater}
use Rattle.fdb_interval.specs.Breakpoints.{Breaks, value_from, AreRising}
use Rattle.fdb_keys.specs.RangeMaps.{without_points}
use Rattle.fdb_interval.proofs.BreaksLemmas.{all_imply, sift, sift-true, sift-false, sift-none, at, value-after}

-- the breakpoints with a value at a point, and those without that at the point
abbrev pub put : {V : Type 0} → Point → V → Breaks V → Breaks V
put x value es = insert_entry (slice_cmp nat_cmp) es x value

abbrev pub taken : {V : Type 0} → Point → Breaks V → Breaks V
taken x es = remove_entry (is_at (slice_cmp nat_cmp x)) es

pub at_itself : (x : Point) → at x x ≡ true
at_itself x = ap is_eq (tied_itself nat_list_cmp_total x)

pub equal_points : (x y : Point) → slice_cmp nat_cmp x y ≡ Equal → x ≡ y
equal_points x y tied = slice_cmp-IsAntisymmetric nat_cmp-IsAntisymmetric x y tied

from_eq : (o : Ordering) → is_eq o ≡ true → o ≡ Equal
from_eq Less eq = cc
from_eq Equal eq = refl
from_eq Greater eq = cc

pub at_same : (x y : Point) → at x y ≡ true → x ≡ y
at_same x y here = equal_points x y (from_eq (slice_cmp nat_cmp x y) here)

pub at_before : (x y : Point) → point_lt x y ≡ true → at x y ≡ false
at_before x y before = ap is_eq (cmp_less x y before)

pub at_after : (x y : Point) → point_lt y x ≡ true → at x y ≡ false
at_after x y after = ap is_eq (cmp_greater x y after)

-- no breakpoint after a point is at it
pub none_later : {V : Type 0} (x : Point) (es : Breaks V)
    → AllByRecursion (λ (later : Point × V). point_lt x later.0 ≡ true) es
    → sift (at x) es ≡ []
none_later x es later = sift-none (at x) es
    (all_imply (λ e. point_lt x e.0 ≡ true) (λ e. at x e.0 ≡ false) (λ e after. at_before x e.0 after) es later)

pub later_than_same : {V : Type 0} (x y : Point) (es : Breaks V) → x ≡ y
    → AllByRecursion (λ (later : Point × V). point_lt y later.0 ≡ true) es
    → AllByRecursion (λ (later : Point × V). point_lt x later.0 ≡ true) es
later_than_same {V} x y es same later =
    subst (λ (z : Point). AllByRecursion (λ (e : Point × V). point_lt z e.0 ≡ true) es) (sym same) later

pub less_first : (x y : Point) → slice_cmp nat_cmp x y ≡ Less → point_lt x y ≡ true
unfolding point_lt
less_first x y is = ap is_lt is

pub greater_after : (x y : Point) → slice_cmp nat_cmp x y ≡ Greater → point_lt y x ≡ true
unfolding point_lt
greater_after x y is = ap is_lt (nat_list_cmp_total.antisymm y x ∙ ap ordering_reverse is)

-- ---- a breakpoint that is put in
pub put-other : {V : Type 0} (p : Point → Bool) (x : Point) (value : V) → p x ≡ false → (es : Breaks V)
    → sift p (put x value es) ≡ sift p es
put-other p x value fails [] = sift-false p (x, value) [] fails
put-other {V} p x value fails (e ∷ es) =
    by_order (slice_cmp nat_cmp x e.0) refl (put-other p x value fails es)
  where
    by_order : (o : Ordering) → slice_cmp nat_cmp x e.0 ≡ o → sift p (put x value es) ≡ sift p es
        → sift p (match_ordering o ((x, value) ∷ e ∷ es) ((e.0, value) ∷ es) (e ∷ put x value es))
        ≡ sift p (e ∷ es)
    by_order Less is others = sift-false p (x, value) (e ∷ es) fails
    by_order Equal is others =
        let fails_too : p e.0 ≡ false = ap p (sym (equal_points x e.0 is)) ∙ fails in
        sift-false p (e.0, value) es fails_too ∙ sym (sift-false p e es fails_too)
    by_order Greater is others = ap (λ (l : Breaks V). if p e.0 then e ∷ l else l) others

pub put-at : {V : Type 0} (x : Point) (value : V) (es : Breaks V) → AreRising es
    → sift (at x) (put x value es) ≡ (x, value) ∷ []
put-at x value [] rising = sift-true (at x) (x, value) [] (at_itself x)
put-at {V} x value (e ∷ es) rising =
    by_order (slice_cmp nat_cmp x e.0) refl (put-at x value es rising.1)
  where
    by_order : (o : Ordering) → slice_cmp nat_cmp x e.0 ≡ o → sift (at x) (put x value es) ≡ (x, value) ∷ []
        → sift (at x) (match_ordering o ((x, value) ∷ e ∷ es) ((e.0, value) ∷ es) (e ∷ put x value es))
        ≡ (x, value) ∷ []
    by_order Less is others =
        let first : point_lt x e.0 ≡ true = less_first x e.0 is in
        let later = all_imply (λ f. point_lt e.0 f.0 ≡ true) (λ f. point_lt x f.0 ≡ true)
        (λ f after. lt_chain x e.0 f.0 first after) es rising.0 in
        sift-true (at x) (x, value) (e ∷ es) (at_itself x)
        ∙ ap (λ (l : Breaks V). (x, value) ∷ l) (none_later x (e ∷ es) (first, later))
    by_order Equal is others =
        let same = equal_points x e.0 is in
        sift-true (at x) (e.0, value) es (ap is_eq is)
        ∙ ap (λ (l : Breaks V). (e.0, value) ∷ l) (none_later x es (later_than_same x e.0 es same rising.0))
        ∙ ap (λ (y : Point). (y, value) ∷ []) (sym same)
    by_order Greater is others = sift-false (at x) e (put x value es) (ap is_eq is) ∙ others

pub all_put : {V : Type 0} (P : Point → Type 0) (x : Point) (value : V) (es : Breaks V) → P x
    → AllByRecursion (λ (e : Point × V). P e.0) es → AllByRecursion (λ (e : Point × V). P e.0) (put x value es)
all_put P x value [] of_x all = (of_x, tt)
all_put {V} P x value (e ∷ es) of_x all =
    by_order (slice_cmp nat_cmp x e.0) (all_put P x value es of_x all.1)
  where
    by_order : (o : Ordering) → AllByRecursion (λ (f : Point × V). P f.0) (put x value es)
        → AllByRecursion (λ (f : Point × V). P f.0)
        (match_ordering o ((x, value) ∷ e ∷ es) ((e.0, value) ∷ es) (e ∷ put x value es))
    by_order Less others = (of_x, all)
    by_order Equal others = (all.0, all.1)
    by_order Greater others = (all.0, others)

pub rising-put : {V : Type 0} (x : Point) (value : V) (es : Breaks V) → AreRising es → AreRising (put x value es)
rising-put x value [] rising = (tt, tt)
rising-put x value (e ∷ es) rising =
    by_order (slice_cmp nat_cmp x e.0) refl (rising-put x value es rising.1)
  where
    by_order : (o : Ordering) → slice_cmp nat_cmp x e.0 ≡ o → AreRising (put x value es)
        → AreRising (match_ordering o ((x, value) ∷ e ∷ es) ((e.0, value) ∷ es) (e ∷ put x value es))
    by_order Less is others =
        let first : point_lt x e.0 ≡ true = less_first x e.0 is in
        let later = all_imply (λ f. point_lt e.0 f.0 ≡ true) (λ f. point_lt x f.0 ≡ true)
        (λ f after. lt_chain x e.0 f.0 first after) es rising.0 in
        ((first, later), rising)
    by_order Equal is others = rising
    by_order Greater is others =
        (all_put (λ y. point_lt e.0 y ≡ true) x value es (greater_after x e.0 is) rising.0, others)

-- ---- a breakpoint that is taken out
pub taken-other : {V : Type 0} (p : Point → Bool) (x : Point) → p x ≡ false → (es : Breaks V)
    → sift p (taken x es) ≡ sift p es
taken-other p x fails [] = refl
taken-other {V} p x fails (e ∷ es) = ⊎_elim
    (λ here.
    ap (sift p) (cond-true _ _ _ here) ∙ sym (sift-false p e es (ap p (sym (at_same x e.0 here)) ∙ fails)))
    (λ there.
    ap (sift p) (cond-false _ _ _ there)
    ∙ ap (λ (l : Breaks V). if p e.0 then e ∷ l else l) (taken-other p x fails es))
    (cases_Bool (at x e.0))

-- from what a test picks, a breakpoint that it picks is taken
pub taken-passing : {V : Type 0} (p : Point → Bool) (x : Point) → p x ≡ true → (es : Breaks V)
    → sift p (taken x es) ≡ taken x (sift p es)
taken-passing p x passes [] = refl
taken-passing {V} p x passes (e ∷ es) = ⊎_elim
    (λ here.
    ap (sift p) (cond-true _ _ _ here)
    ∙ sym (ap (taken x) (sift-true p e es (ap p (sym (at_same x e.0 here)) ∙ passes)) ∙ cond-true _ _ _ here))
    (λ there. ap (sift p) (cond-false _ _ _ there) ∙ elsewhere there (taken-passing p x passes es) (cases_Bool (p e.0)))
    (cases_Bool (at x e.0))
  where
    elsewhere : at x e.0 ≡ false → sift p (taken x es) ≡ taken x (sift p es) → (p e.0 ≡ true) ⊎ (p e.0 ≡ false)
        → sift p (e ∷ taken x es) ≡ taken x (sift p (e ∷ es))
    elsewhere there others (inl kept) =
        sift-true p e (taken x es) kept
        ∙ ap (λ (l : Breaks V). e ∷ l) others
        ∙ sym (ap (taken x) (sift-true p e es kept) ∙ cond-false _ _ _ there)
    elsewhere there others (inr dropped) =
        sift-false p e (taken x es) dropped
        ∙ others
        ∙ sym (ap (taken x) (sift-false p e es dropped))

pub all_left : {V : Type 0} (P : Point × V → Type 0) (x : Point) (es : Breaks V) → AllByRecursion P es
    → AllByRecursion P (taken x es)
all_left P x [] all = tt
all_left P x (e ∷ es) all = ⊎_elim
    (λ here. subst (AllByRecursion P) (sym (cond-true _ _ _ here)) all.1)
    (λ there. subst (AllByRecursion P) (sym (cond-false _ _ _ there)) (all.0, all_left P x es all.1))
    (cases_Bool (at x e.0))

pub rising-taken : {V : Type 0} (x : Point) (es : Breaks V) → AreRising es → AreRising (taken x es)
rising-taken x [] rising = tt
rising-taken x (e ∷ es) rising = ⊎_elim
    (λ here. subst AreRising (sym (cond-true _ _ _ here)) rising.1)
    (λ there. subst AreRising (sym (cond-false _ _ _ there))
    (all_left (λ later. point_lt e.0 later.0 ≡ true) x es rising.0, rising-taken x es rising.1))
    (cases_Bool (at x e.0))

-- ---- all that are inside a range
pub rising-without : {V : Type 0} (keys : List Point) (es : Breaks V) → AreRising es
    → AreRising (without_points keys es)
rising-without [] es rising = rising
rising-without (key ∷ keys) es rising = rising-without keys (taken key es) (rising-taken key es rising)

pub without-other : {V : Type 0} (p : Point → Bool) (keys : List Point)
    → AllByRecursion (λ key. p key ≡ false) keys → (es : Breaks V)
    → sift p (without_points keys es) ≡ sift p es
without-other p [] fail es = refl
without-other p (key ∷ keys) fail es = without-other p keys fail.1 (taken key es) ∙ taken-other p key fail.0 es

pub without-passing : {V : Type 0} (p : Point → Bool) (keys : List Point) → AllByRecursion (λ key. p key ≡ true) keys
    → (es : Breaks V) → sift p (without_points keys es) ≡ without_points keys (sift p es)
without-passing p [] pass es = refl
without-passing p (key ∷ keys) pass es =
    without-passing p keys pass.1 (taken key es) ∙ ap (without_points keys) (taken-passing p key pass.0 es)

pub without-all : {V : Type 0} (es : Breaks V) → without_points (keys_of es) es ≡ []
without-all [] = refl
without-all (e ∷ es) = ap (without_points (keys_of es)) (cond-true _ _ _ (at_itself e.0)) ∙ without-all es

pub keys_all : {V : Type 0} (P : Point → Type 0) (es : Breaks V) → AllByRecursion (λ (e : Point × V). P e.0) es
    → AllByRecursion P (keys_of es)
keys_all P [] all = tt
keys_all P (e ∷ es) all = (all.0, keys_all P es all.1)

-- a breakpoint that is put in where none is and taken out again leaves what was there
pub taken_back : {V : Type 0} (es : Breaks V) (x : Point) (value : V) → lookup (is_at (slice_cmp nat_cmp x)) es ≡ None
    → taken x (put x value es) ≡ es
taken_back [] x value absent = cond-true _ _ _ (at_itself x)
taken_back {V} (e ∷ es) x value absent =
    by_order (slice_cmp nat_cmp x e.0) refl (taken_back es x value)
  where
    by_order : (o : Ordering) → slice_cmp nat_cmp x e.0 ≡ o
        → (lookup (is_at (slice_cmp nat_cmp x)) es ≡ None → taken x (put x value es) ≡ es)
        → taken x (match_ordering o ((x, value) ∷ e ∷ es) ((e.0, value) ∷ es) (e ∷ put x value es)) ≡ e ∷ es
    by_order Less is others = cond-true _ _ _ (at_itself x)
    by_order Equal is others = absurd (both_ways _ (ap is_some (sym (cond-true _ _ _ (ap is_eq is)) ∙ absent)) refl)
    by_order Greater is others =
        cond-false _ _ _ (ap is_eq is)
        ∙ ap (λ (l : Breaks V). e ∷ l) (others (sym (cond-false _ _ _ (ap is_eq is)) ∙ absent))

-- a breakpoint that is there is the one at its point, with the value there
pub found-at : {V : Type 0} (start : V) (x : Point) (es : Breaks V) → AreRising es
    → is_some (lookup (is_at (slice_cmp nat_cmp x)) es) ≡ true
    → sift (at x) es ≡ (x, value_from start es x) ∷ []
found-at start x [] rising found = absurd (both_ways _ refl found)
found-at {V} start x (e ∷ es) rising found = ⊎_elim
    (λ here.
    let same = at_same x e.0 here in
    let later = later_than_same x e.0 es same rising.0 in
    let reached : point_lt x e.0 ≡ false = ap (point_lt x) (sym same) ∙ lt-itself x in
    let value : value_from start (e ∷ es) x ≡ e.1 =
    ap (λ n. value_from n es x) (cond-false _ _ _ reached) ∙ value-after e.1 es x later in
    sift-true (at x) e es here
    ∙ ap (λ (l : Breaks V). e ∷ l) (none_later x es later)
    ∙ (λ i. (sym same i, sym value i) ∷ []))
    (λ there.
    sift-false (at x) e es there
    ∙ found-at (if point_lt x e.0 then start else e.1) x es rising.1
    (ap is_some (sym (cond-false _ _ _ there)) ∙ found))
    (cases_Bool (at x e.0))
