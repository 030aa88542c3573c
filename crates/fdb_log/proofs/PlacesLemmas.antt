-- Places of mutations, and those that are taken from them.
use Rattle.std.proofs.Common.{◌≡◌, ◌∙◌, sym, ap, ap₂, refl, subst, ℕ, ◌<◌, ◌≤◌, Bool, true, false, not, ◌||◌, List, []}
use Rattle.std.proofs.Common.{◌∷◌, ◌++◌}
use Rattle.std.proofs.Common.{⊎_elim, arith, cond, Option, Some, None}
use Rattle.std.specs.Prelude.{◌==◌, ◌&&◌, nat_lt, filter, MatchOption}
use Rattle.std.specs.List.{AllByRecursion}
use Rattle.std.specs.Ordering.{nat_cmp, ordering_then, is_eq}
use Rattle.std.specs.declared.cmp.Ordering.{Ordering}
use Rattle.std.specs.declared.cmp.Ordering.TheVariants.{Less, Equal, Greater}
use Rattle.std.specs.BTreeMap.{is_at}
use Rattle.std.specs.Map.{keys_of, lookup, remove_entry}
use Rattle.std.specs.List.Sorted.{IsStrictlySortedBy}
use Rattle.std.proofs.lemmas.Bool.{cases_Bool, cond-true, cond-false, lt-ltb, le-ltb, ltb-true, eqb-true, eq-eqb}
use Rattle.std.proofs.lemmas.Bool.{ne_eqb}
use Rattle.std.proofs.lemmas.Bool.{and_parts, or_left, or_right, not-true, not-false}
use Rattle.std.proofs.lemmas.List.Folds.{list_any-append}
use Rattle.std.proofs.lemmas.Map.Keys.{sorted_head, sorted_tail}
use Rattle.fdb_keys.proofs.Exports.{all-append, all-filter, all-weaken}
use Rattle.fdb_log.specs.Places.{AreRising, StartsAbove, has_place, is_place, place_cmp, places_above}
use Rattle.fdb_log.specs.Waiting.{Waiting}

-- ---- places that rise

pub rising-later : (last later : ℕ) (places : List (ℕ × ℕ)) → last ≤ later → AreRising last places
    → AreRising later places
rising-later last later [] more rising = tt
rising-later last later (first ∷ places) more rising =
    let here : first.0 ≤ last = rising.0 in
    (omega arith, rising.1, rising-later last later places more rising.2)

-- one more at the end, of the last version
pub rising-push : (last : ℕ) (places : List (ℕ × ℕ)) (place : ℕ × ℕ) → place.0 ≡ last → AreRising last places
    → AreRising last (places ++ place ∷ [])
rising-push last [] place is rising = (omega arith, tt, tt)
rising-push last (first ∷ places) place is rising =
    let here : first.0 ≤ last = rising.0 in (
      here,
      all-append (λ (later : ℕ × ℕ). first.0 ≤ later.0) places (place ∷ []) rising.1 (omega arith, tt),
      rising-push last places place is rising.2,
    )

-- those above a version rise too
pub rising-above : (last version : ℕ) (places : List (ℕ × ℕ)) → AreRising last places
    → AreRising last (places_above version places)
rising-above last version [] rising = tt
rising-above last version (first ∷ places) rising =
    ⊎_elim
    (λ above.
    subst (AreRising last) (sym (cond-true (nat_lt version first.0) _ _ above)) (
      rising.0,
      all-filter (λ (later : ℕ × ℕ). first.0 ≤ later.0) (λ (place : ℕ × ℕ). nat_lt version place.0) places rising.1,
      rising-above last version places rising.2,
    ))
    (λ below.
    subst (AreRising last) (sym (cond-false (nat_lt version first.0) _ _ below))
    (rising-above last version places rising.2))
    (cases_Bool (nat_lt version first.0))

-- where the first one lies above a version, all do
pub all-above : (last version : ℕ) (places : List (ℕ × ℕ)) → AreRising last places → StartsAbove version places
    → AllByRecursion (λ (place : ℕ × ℕ). version < place.0) places
all-above last version [] rising starts = tt
all-above last version (first ∷ places) rising starts = (
  starts,
  all-weaken (λ (later : ℕ × ℕ). first.0 ≤ later.0) (λ (place : ℕ × ℕ). version < place.0)
      (λ place later. omega arith) places rising.1,
)

pub above-all_places : (version : ℕ) (places : List (ℕ × ℕ))
    → AllByRecursion (λ (place : ℕ × ℕ). version < place.0) places → places_above version places ≡ places
above-all_places version [] all = refl
above-all_places version (first ∷ places) all =
    cond-true (nat_lt version first.0) _ _ (lt-ltb version first.0 all.0)
    ∙ ap (λ (rest : List (ℕ × ℕ)). first ∷ rest) (above-all_places version places all.1)

-- a place up to the version isn't above it
pub above-first : (version : ℕ) (first : ℕ × ℕ) (places : List (ℕ × ℕ)) → first.0 ≤ version
    → places_above version (first ∷ places) ≡ places_above version places
above-first version first places through =
    cond-false (nat_lt version first.0) _ _ (le-ltb version first.0 through)

-- ---- which places there are

-- a place that is there is above a version that all are above
pub has-above : (version : ℕ) (places : List (ℕ × ℕ)) (place : ℕ × ℕ)
    → AllByRecursion (λ (other : ℕ × ℕ). version < other.0) places → has_place places place ≡ true
    → version < place.0
has-above version [] place all has = cc
has-above version (first ∷ places) place all has =
    ⊎_elim
    (λ same.
    let at : place.0 ≡ first.0 = eqb-true place.0 first.0 (and_parts (place.0 == first.0)
    (place.1 == first.1) same).0 in
    let above : version < first.0 = all.0 in
    omega arith)
    (λ apart.
    has-above version places place all.1
    (sym (ap (λ (b : Bool). b || has_place places place) apart) ∙ has))
    (cases_Bool (is_place place first))

-- it stays among those above the version, if it is above
pub has-still : (version : ℕ) (places : List (ℕ × ℕ)) (place : ℕ × ℕ) → version < place.0
    → has_place places place ≡ true → has_place (places_above version places) place ≡ true
has-still version [] place above has = has
has-still version (first ∷ places) place above has =
    ⊎_elim
    (λ same.
    let at : place.0 ≡ first.0 = eqb-true place.0 first.0 (and_parts (place.0 == first.0)
    (place.1 == first.1) same).0 in
    ap (λ (list : List (ℕ × ℕ)). has_place list place)
    (cond-true (nat_lt version first.0) _ _ (lt-ltb version first.0 (omega arith)))
    ∙ or_left (is_place place first) (has_place (places_above version places) place) same)
    (λ apart.
    let more : has_place (places_above version places) place ≡ true =
    has-still version places place above (sym (ap (λ (b : Bool). b || has_place places place) apart) ∙ has) in
    ⊎_elim
    (λ kept.
    ap (λ (list : List (ℕ × ℕ)). has_place list place) (cond-true (nat_lt version first.0) _ _ kept)
    ∙ or_right (is_place place first) (has_place (places_above version places) place) more)
    (λ dropped.
    ap (λ (list : List (ℕ × ℕ)). has_place list place) (cond-false (nat_lt version first.0) _ _ dropped) ∙ more)
    (cases_Bool (nat_lt version first.0)))
    (cases_Bool (is_place place first))

pub has-before : (front back : List (ℕ × ℕ)) (place : ℕ × ℕ) → has_place front place ≡ true
    → has_place (front ++ back) place ≡ true
has-before front back place has =
    list_any-append (λ (other : ℕ × ℕ). is_place place other) front back
    ∙ or_left (has_place front place) (has_place back place) has

pub has-last : (front : List (ℕ × ℕ)) (place : ℕ × ℕ) → has_place (front ++ place ∷ []) place ≡ true
has-last front place =
    list_any-append (λ (other : ℕ × ℕ). is_place place other) front (place ∷ [])
    ∙ or_right (has_place front place) (has_place (place ∷ []) place)
    (or_left (is_place place place) false (is_itself place))
  where
    is_itself : (place : ℕ × ℕ) → is_place place place ≡ true
    is_itself place =
        ap (λ (b : Bool). b && (place.1 == place.1)) (eq-eqb place.0 place.0 refl) ∙ eq-eqb place.1 place.1 refl

-- ---- the mutation at a place

is_eq-number : (a b : ℕ) → is_eq (nat_cmp a b) ≡ (a == b)
is_eq-number a b =
    ⊎_elim
    (λ less.
    ap is_eq (cond-true (nat_lt a b) Less _ less)
    ∙ sym (ne_eqb a b (λ same. let below : a < b = ltb-true a b less in absurd (omega arith))))
    (λ not_less.
    ap is_eq (cond-false (nat_lt a b) Less _ not_less) ∙ by_test (a == b))
    (cases_Bool (nat_lt a b))
  where
    by_test : (b : Bool) → is_eq (cond b Equal Greater) ≡ b
    by_test true = refl
    by_test false = refl

at-is_place : (place other : ℕ × ℕ) → is_at (place_cmp place) other ≡ is_place place other
at-is_place place other =
    step (nat_cmp place.0 other.0) (nat_cmp place.1 other.1)
    ∙ ap₂ (λ (a b : Bool). a && b) (is_eq-number place.0 other.0) (is_eq-number place.1 other.1)
  where
    step : (a b : Ordering) → is_eq (ordering_then a b) ≡ (is_eq a && is_eq b)
    step Less b = refl
    step Equal b = refl
    step Greater b = refl

-- where no key is the place, none is left out
none-left : (test : Waiting → Bool) (place : ℕ × ℕ) (items : List Waiting)
    → AllByRecursion (λ (other : ℕ × ℕ). is_place place other ≡ false) (keys_of items)
    → filter (λ (one : Waiting). test one || not (is_place place one.0)) items ≡ items
none-left test place [] apart = refl
none-left test place (one ∷ items) apart =
    cond-true (test one || not (is_place place one.0)) _ _
    (or_right (test one) (not (is_place place one.0)) (ap not apart.0))
    ∙ ap (λ (rest : List Waiting). one ∷ rest) (none-left test place items apart.1)

module _ (test : Waiting → Bool) (place : ℕ × ℕ) where
  abbrev stays : Waiting → Bool
  stays one = test one || not (is_place place one.0)

  -- the keys behind the place aren't it
  others-apart : (one : Waiting) (items : List Waiting) → is_place place one.0 ≡ true
      → IsStrictlySortedBy place_cmp (keys_of (one ∷ items))
      → AllByRecursion (λ (other : ℕ × ℕ). is_place place other ≡ false) (keys_of items)
  others-apart one items same sorted =
      let parts = and_parts (place.0 == one.0.0) (place.1 == one.0.1) same in
      all-weaken (λ (other : ℕ × ℕ). place_cmp one.0 other ≡ Less) (λ (other : ℕ × ℕ). is_place place other ≡ false)
      (λ other less.
      sym (at-is_place place other)
      ∙ ap₂ (λ (a b : ℕ). is_eq (ordering_then (nat_cmp a other.0) (nat_cmp b other.1)))
      (eqb-true place.0 one.0.0 parts.0) (eqb-true place.1 one.0.1 parts.1)
      ∙ ap is_eq less)
      (keys_of items) (sorted_head place_cmp one.0 (keys_of items) sorted)

  -- one at the place passes as what is found there does
  found-passes : (one : Waiting) → is_place place one.0 ≡ true → test (place, one.1) ≡ test one
  found-passes one same =
      let parts = and_parts (place.0 == one.0.0) (place.1 == one.0.1) same in
      ap₂ (λ (a b : ℕ). test ((a, b), one.1)) (eqb-true place.0 one.0.0 parts.0) (eqb-true place.1 one.0.1 parts.1)

  -- where the mutation at the place passes, or there is none, none is left out
  none-dropped : (items : List Waiting) → IsStrictlySortedBy place_cmp (keys_of items)
      → ((tags : List ℕ) → lookup (is_at (place_cmp place)) items ≡ Some tags → test (place, tags) ≡ true)
      → items ≡ filter stays items
  none-dropped [] sorted passes = refl
  none-dropped (one ∷ items) sorted passes =
      ⊎_elim
      (λ at.
      let same : is_place place one.0 ≡ true = sym (at-is_place place one.0) ∙ at in
      let is : test one ≡ true =
      sym (found-passes one same) ∙ passes one.1 (cond-true (is_at (place_cmp place) one.0) _ _ at) in
      sym (cond-true (stays one) _ _ (or_left (test one) (not (is_place place one.0)) is)
      ∙ ap (λ (rest : List Waiting). one ∷ rest) (none-left test place items (others-apart one items same sorted))))
      (λ apart.
      let other : is_place place one.0 ≡ false = sym (at-is_place place one.0) ∙ apart in
      ap (λ (rest : List Waiting). one ∷ rest)
      (none-dropped items (sorted_tail place_cmp one.0 (keys_of items) sorted)
      (λ tags found. passes tags (cond-false (is_at (place_cmp place) one.0) _ _ apart ∙ found)))
      ∙ sym (cond-true (stays one) _ _ (or_right (test one) (not (is_place place one.0)) (ap not other))))
      (cases_Bool (is_at (place_cmp place) one.0))

  -- and where it doesn't pass, it is
  one-dropped : (items : List Waiting) (tags : List ℕ) → IsStrictlySortedBy place_cmp (keys_of items)
      → lookup (is_at (place_cmp place)) items ≡ Some tags → test (place, tags) ≡ false
      → remove_entry (is_at (place_cmp place)) items ≡ filter stays items
  one-dropped [] tags sorted found fails = refl
  one-dropped (one ∷ items) tags sorted found fails =
      ⊎_elim
      (λ at.
      let same : is_place place one.0 ≡ true = sym (at-is_place place one.0) ∙ at in
      let here : lookup (is_at (place_cmp place)) (one ∷ items) ≡ Some one.1 =
      cond-true (is_at (place_cmp place) one.0) _ _ at in
      let its : tags ≡ one.1 = cc in
      let is : test one ≡ false =
      sym (found-passes one same) ∙ ap (λ (list : List ℕ). test (place, list)) (sym its) ∙ fails in
      cond-true (is_at (place_cmp place) one.0) _ _ at
      ∙ sym (cond-false (stays one) _ _
      (ap (λ (b : Bool). b || not (is_place place one.0)) is ∙ ap not same)
      ∙ none-left test place items (others-apart one items same sorted)))
      (λ apart.
      let other : is_place place one.0 ≡ false = sym (at-is_place place one.0) ∙ apart in
      cond-false (is_at (place_cmp place) one.0) _ _ apart
      ∙ ap (λ (rest : List Waiting). one ∷ rest)
      (one-dropped items tags (sorted_tail place_cmp one.0 (keys_of items) sorted)
      (sym (cond-false (is_at (place_cmp place) one.0) _ _ apart) ∙ found) fails)
      ∙ sym (cond-true (stays one) _ _ (or_right (test one) (not (is_place place one.0)) (ap not other))))
      (cases_Bool (is_at (place_cmp place) one.0))

  -- by what was found there
  pub unwaited-dropped : (items : List Waiting) → IsStrictlySortedBy place_cmp (keys_of items)
      → MatchOption (lookup (is_at (place_cmp place)) items) (true ≡ false) (λ tags. true ≡ not (test (place, tags)))
      → remove_entry (is_at (place_cmp place)) items ≡ filter stays items
  unwaited-dropped items sorted found = by_found (lookup (is_at (place_cmp place)) items) refl found
    where
      by_found : (was : Option (List ℕ)) → lookup (is_at (place_cmp place)) items ≡ was
          → MatchOption was (true ≡ false) (λ tags. true ≡ not (test (place, tags)))
          → remove_entry (is_at (place_cmp place)) items ≡ filter stays items
      by_found None is found = cc
      by_found (Some tags) is found = one-dropped items tags sorted is (not-true (test (place, tags)) (sym found))

  pub waited-stays : (items : List Waiting) → IsStrictlySortedBy place_cmp (keys_of items)
      → MatchOption (lookup (is_at (place_cmp place)) items) (false ≡ false)
      (λ tags. false ≡ not (test (place, tags)))
      → items ≡ filter stays items
  waited-stays items sorted found =
      none-dropped items sorted (λ tags is. not-false (test (place, tags))
      (sym (subst (λ (was : Option (List ℕ)). MatchOption was (false ≡ false)
      (λ tags. false ≡ not (test (place, tags))))
      is found)))
