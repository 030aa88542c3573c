-- Where the piece of a point begins, and what is made of the history at a point by where its piece begins.
use Rattle.std.proofs.Common.{◌≡◌, ◌∙◌, sym, ap, refl, Bool, true, false, not, ◌&&◌, [], ◌∷◌}
use Rattle.std.proofs.Common.{Option, Some, None, is_some, if◌then◌else◌, ◌⊎◌, inl, inr}
use Rattle.std.specs.BTreeMap.{is_at}
use Rattle.std.specs.Cmp.Lexicographic.{slice_cmp}
use Rattle.std.specs.List.{AllByRecursion}
use Rattle.std.specs.Map.{lookup}
use Rattle.std.specs.Ordering.{nat_cmp}
use Rattle.std.proofs.lemmas.Bool.{cases_Bool, both_ways, cond-true, cond-false}
use Rattle.fdb_keys.specs.Points.{Point, point_lt}
use Rattle.fdb_keys.specs.Ranges.{Range, in_range}
use Rattle.fdb_keys.proofs.Exports.{lt-itself, lt_chain, lt_one_way}
use Rattle.fdb_interval.specs.Breakpoints.{Breaks, value_from, AreRising}
use Rattle.fdb_interval.proofs.Exports.{all_imply, at, at_same, later_than_same}
use Rattle.fdb_owners.proofs.FreshLemmas.{remade}

-- the last breakpoint up to the point, `before` where there is none
abbrev pub place_from : {V : Type 0} → Option Point → Breaks V → Point → Option Point
place_from before [] x = before
place_from before (e ∷ es) x = place_from (if point_lt x e.0 then before else Some e.0) es x

-- a place comes before a point; where there is none, it comes before all of them
abbrev pub place_lt : Option Point → Point → Bool
place_lt None y = true
place_lt (Some k) y = point_lt k y

abbrev pub place_in : Range → Option Point → Bool
place_in range place = not (place_lt place range.begin) && place_lt place range.end

-- ---- what is made of the history at a point
pub value-remade : {V : Type 0} (f : Option Point → V → V) (before made : V) (place : Option Point) (es : Breaks V)
    (x : Point) → made ≡ f place before
    → value_from made (remade (λ y. f (Some y)) es) x ≡ f (place_from place es x) (value_from before es x)
value-remade f before made place [] x is = is
value-remade {V} f before made place (e ∷ es) x is =
    value-remade f (if point_lt x e.0 then before else e.1) (if point_lt x e.0 then made else f (Some e.0) e.1)
    (if point_lt x e.0 then place else Some e.0) es x (either (point_lt x e.0))
  where
    either : (t : Bool) → (if t then made else f (Some e.0) e.1)
        ≡ f (if t then place else Some e.0) (if t then before else e.1)
    either true = is
    either false = refl

-- ---- a point comes before a breakpoint exactly where its piece begins before it
-- a place never goes back
stays-behind : {V : Type 0} (place : Option Point) (es : Breaks V) (x y : Point) → place_lt place y ≡ false
    → AllByRecursion (λ (e : Point × V). point_lt y e.0 ≡ true) es → place_lt (place_from place es x) y ≡ false
stays-behind place [] x y behind later = behind
stays-behind {V} place (e ∷ es) x y behind later =
    stays-behind (if point_lt x e.0 then place else Some e.0) es x y (either (point_lt x e.0)) later.1
  where
    either : (t : Bool) → place_lt (if t then place else Some e.0) y ≡ false
    either true = behind
    either false = lt_one_way y e.0 later.0

-- and doesn't reach breakpoints after the point
stays-before : {V : Type 0} (place : Option Point) (es : Breaks V) (x : Point)
    → AllByRecursion (λ (e : Point × V). point_lt x e.0 ≡ true) es → place_from place es x ≡ place
stays-before place [] x later = refl
stays-before place (e ∷ es) x later =
    ap (λ (p : Option Point). place_from p es x) (cond-true _ _ _ later.0) ∙ stays-before place es x later.1

pub place-tells : {V : Type 0} (place : Option Point) (es : Breaks V) (x y : Point) → AreRising es
    → AllByRecursion (λ (e : Point × V). place_lt place e.0 ≡ true) es
    → is_some (lookup (is_at (slice_cmp nat_cmp y)) es) ≡ true
    → place_lt (place_from place es x) y ≡ point_lt x y
place-tells place [] x y rising before found = absurd (both_ways _ refl found)
place-tells {V} place (e ∷ es) x y rising before found =
    by_case (λ start later still. place-tells start es x y rising.1 later still) (cases_Bool (at y e.0))
    (cases_Bool (point_lt x e.0))
  where
    by_case : ((start : Option Point) → AllByRecursion (λ (f : Point × V). place_lt start f.0 ≡ true) es
        → is_some (lookup (is_at (slice_cmp nat_cmp y)) es) ≡ true
        → place_lt (place_from start es x) y ≡ point_lt x y)
        → (at y e.0 ≡ true) ⊎ (at y e.0 ≡ false) → (point_lt x e.0 ≡ true) ⊎ (point_lt x e.0 ≡ false)
        → place_lt (place_from place (e ∷ es) x) y ≡ point_lt x y
    by_case others (inl here) (inl sooner) =
        let same : y ≡ e.0 = at_same y e.0 here in
        let later : AllByRecursion (λ (f : Point × V). point_lt x f.0 ≡ true) es =
        all_imply (λ f. point_lt e.0 f.0 ≡ true) (λ f. point_lt x f.0 ≡ true)
        (λ f after. lt_chain x e.0 f.0 sooner after) es rising.0 in
        ap (λ (p : Option Point). place_lt p y) (stays-before place (e ∷ es) x (sooner, later))
        ∙ ap (place_lt place) same
        ∙ before.0
        ∙ sym (ap (point_lt x) same ∙ sooner)
    by_case others (inl here) (inr reached) =
        let same : y ≡ e.0 = at_same y e.0 here in
        ap (λ (p : Option Point). place_lt (place_from p es x) y) (cond-false _ _ _ reached)
        ∙ stays-behind (Some e.0) es x y (ap (point_lt e.0) same ∙ lt-itself e.0)
        (later_than_same y e.0 es same rising.0)
        ∙ sym (ap (point_lt x) same ∙ reached)
    by_case others (inr there) (inl sooner) =
        ap (λ (p : Option Point). place_lt (place_from p es x) y) (cond-true _ _ _ sooner)
        ∙ others place before.1
        (ap is_some (sym (cond-false _ _ _ there)) ∙ found)
    by_case others (inr there) (inr reached) =
        ap (λ (p : Option Point). place_lt (place_from p es x) y) (cond-false _ _ _ reached)
        ∙ others (Some e.0) rising.0
        (ap is_some (sym (cond-false _ _ _ there)) ∙ found)

-- none is before all
all-after-none : {V : Type 0} (es : Breaks V) → AllByRecursion (λ (e : Point × V). place_lt None e.0 ≡ true) es
all-after-none [] = tt
all-after-none (e ∷ es) = (refl, all-after-none es)

-- so a range between breakpoints has a point exactly where it has the place of its piece
pub place-within : {V : Type 0} (es : Breaks V) (x : Point) (range : Range) → AreRising es
    → is_some (lookup (is_at (slice_cmp nat_cmp range.begin)) es) ≡ true
    → is_some (lookup (is_at (slice_cmp nat_cmp range.end)) es) ≡ true
    → place_in range (place_from None es x) ≡ in_range range x
place-within es x range rising begin end =
    ap (λ (t : Bool). not t && place_lt (place_from None es x) range.end)
    (place-tells None es x range.begin rising (all-after-none es) begin)
    ∙ ap (λ (t : Bool). not (point_lt x range.begin) && t)
    (place-tells None es x range.end rising (all-after-none es) end)
