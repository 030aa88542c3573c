-- Which pairs the range of a map has.
use Rattle.std.proofs.Common.{◌≡◌, ◌∙◌, sym, ap, subst, ℕ, Bool, true, false, ◌&&◌, cond, ⊎_elim}
use Rattle.std.proofs.Common.{List, [], ◌∷◌, reverse, Some, None, refl, ◌||◌}
use Rattle.std.specs.Prelude.{◌↔◌}
use Rattle.std.specs.Cmp.Lexicographic.{bytes_decides, slice_cmp}
use Rattle.std.specs.FinMap.{get}
use Rattle.std.specs.FinMap.Entries.{find}
use Rattle.std.specs.List.{AllByRecursion, list_any}
use Rattle.std.specs.Ordering.{nat_cmp}
use Rattle.std.proofs.lemmas.Bool.{and_from, and_parts, cases_Bool, cond-false, cond-true, or_cases, or_left, or_right}
use Rattle.std.proofs.lemmas.List.{reverse-append}
use Rattle.std.proofs.lemmas.List.Folds.{list_any-append}
use Rattle.std.proofs.lemmas.Map.Text.{is_eq-slice_cmp}
use Rattle.std.proofs.lemmas.Option.{none-some, same_Some}
use Rattle.fdb_keys.specs.Ordered.{AreOrdered}
use Rattle.fdb_keys.specs.Points.{Point, point_eq, point_lt}
use Rattle.fdb_keys.specs.Ranges.{Range, in_range}
use Rattle.fdb_keys.proofs.Exports.{lt-itself}
use Rattle.fdb_mutations.specs.Maps.{Map}
use Rattle.fdb_mutations.specs.Pairs.{pairs_in}
use Rattle.fdb_mutations.proofs.Exports.{all_in-pairs_in, find-within, ordered-pairs_in}

abbrev Pair : Type 0
Pair = Point × List ℕ

-- the pair of the key and the value is one of these
abbrev pub has_pair : List Pair → Point → List ℕ → Bool
has_pair pairs key value = list_any (λ pair. point_eq pair.0 key && point_eq pair.1 value) pairs

-- the pairs are in the order of their keys
abbrev pub AreInOrder : List Pair → Type 0
AreInOrder pairs = AreOrdered (λ one other. point_lt one.0 other.0 ≡ true) pairs

-- a point is no point before it
not-before : (x y : Point) → point_lt x y ≡ true → point_eq y x ≡ false
not-before x y before = ⊎_elim
    (λ same. let is : y ≡ x = (bytes_decides y x).0 same in
    let wrong : true ≡ false = sym before ∙ ap (point_lt x) is ∙ lt-itself x in cc)
    (λ differs. differs)
    (cases_Bool (point_eq y x))

-- what holds of each key holds of that of a pair
of-key : (P : Point → Type 0) (key : Point) (value : List ℕ) (pairs : List Pair)
    → AllByRecursion (λ pair. P pair.0) pairs → has_pair pairs key value ≡ true → P key
of-key P key value [] all has = absurd (let wrong : false ≡ true = has in cc)
of-key P key value (pair ∷ pairs) all has = ⊎_elim
    (λ first. subst P ((bytes_decides pair.0 key).0
    (and_parts (point_eq pair.0 key) (point_eq pair.1 value) first).0) all.0)
    (λ later. of-key P key value pairs all.1 later)
    (or_cases (point_eq pair.0 key && point_eq pair.1 value) (has_pair pairs key value) has)

-- what is found at a key is the first pair's value where it is its key
pub find-first : (key : Point) (pair : Pair) (pairs : List Pair)
    → find (slice_cmp nat_cmp) key (pair ∷ pairs)
    ≡ cond (point_eq key pair.0) (Some pair.1) (find (slice_cmp nat_cmp) key pairs)
find-first key pair pairs =
    ap (λ same. cond same (Some pair.1) (find (slice_cmp nat_cmp) key pairs)) (is_eq-slice_cmp key pair.0)

-- a pair that is found is one of these
found-has : (key : Point) (value : List ℕ) (pairs : List Pair) → find (slice_cmp nat_cmp) key pairs ≡ Some value
    → has_pair pairs key value ≡ true
found-has key value [] found = absurd (none-some value found)
found-has key value (pair ∷ pairs) found = ⊎_elim
    (λ here. let is : Some pair.1 ≡ Some value =
    sym (find-first key pair pairs
    ∙ cond-true (point_eq key pair.0) (Some pair.1) (find (slice_cmp nat_cmp) key pairs) here) ∙ found in
    or_left (point_eq pair.0 key && point_eq pair.1 value) (has_pair pairs key value)
    (and_from (point_eq pair.0 key) (point_eq pair.1 value)
    ((bytes_decides pair.0 key).1 (sym ((bytes_decides key pair.0).0 here)))
    ((bytes_decides pair.1 value).1 (same_Some pair.1 value is))))
    (λ elsewhere. or_right (point_eq pair.0 key && point_eq pair.1 value) (has_pair pairs key value)
    (found-has key value pairs
    (sym (find-first key pair pairs
    ∙ cond-false (point_eq key pair.0) (Some pair.1) (find (slice_cmp nat_cmp) key pairs) elsewhere) ∙ found)))
    (cases_Bool (point_eq key pair.0))

-- and of pairs in order each one is found
has-found : (key : Point) (value : List ℕ) (pairs : List Pair) → AreInOrder pairs → has_pair pairs key value ≡ true
    → find (slice_cmp nat_cmp) key pairs ≡ Some value
has-found key value [] ordered has = absurd (let wrong : false ≡ true = has in cc)
has-found key value (pair ∷ pairs) ordered has = ⊎_elim
    (λ first. let parts : (point_eq pair.0 key ≡ true) × (point_eq pair.1 value ≡ true) =
    and_parts (point_eq pair.0 key) (point_eq pair.1 value) first in
    find-first key pair pairs
    ∙ cond-true (point_eq key pair.0) (Some pair.1) (find (slice_cmp nat_cmp) key pairs)
    ((bytes_decides key pair.0).1 (sym ((bytes_decides pair.0 key).0 parts.0)))
    ∙ ap (λ (it : List ℕ). Some it) ((bytes_decides pair.1 value).0 parts.1))
    (λ later. find-first key pair pairs
    ∙ cond-false (point_eq key pair.0) (Some pair.1) (find (slice_cmp nat_cmp) key pairs)
    (not-before pair.0 key (of-key (λ x. point_lt pair.0 x ≡ true) key value pairs ordered.0 later))
    ∙ has-found key value pairs ordered.1 later)
    (or_cases (point_eq pair.0 key && point_eq pair.1 value) (has_pair pairs key value) has)

-- the same pairs from the end
any-reverse : {A : Type 0} (test : A → Bool) (items : List A) → list_any test (reverse items) ≡ list_any test items
any-reverse test [] = refl
any-reverse test (x ∷ items) =
    ap (list_any test) (reverse-append (x ∷ []) items)
    ∙ list_any-append test (reverse items) (x ∷ [])
    ∙ ap (λ (among : Bool). among || (test x || false)) (any-reverse test items)
    ∙ turned (list_any test items) (test x)
  where
    turned : (a b : Bool) → (a || (b || false)) ≡ (b || a)
    turned true true = refl
    turned true false = refl
    turned false true = refl
    turned false false = refl

either-way : (map : Map) (range : Range) (is_reverse : Bool) (key : Point) (value : List ℕ)
    → has_pair (pairs_in map range is_reverse) key value ≡ has_pair (pairs_in map range false) key value
either-way map range false key value = refl
either-way map range true key value =
    any-reverse (λ (pair : Pair). point_eq pair.0 key && point_eq pair.1 value) (pairs_in map range false)

-- A pair is among those of a range exactly where its key lies in the range and the map has its value there.
pub range_has_pair : (map : Map) (range : Range) (is_reverse : Bool) (key : Point) (value : List ℕ)
    → (has_pair (pairs_in map range is_reverse) key value ≡ true)
    ↔ ((in_range range key ≡ true) × (get map key ≡ Some value))
range_has_pair map range is_reverse key value = (
  (λ has. there (sym (either-way map range is_reverse key value) ∙ has)),
  (λ is. either-way map range is_reverse key value ∙ among is),
)
  where
    there : has_pair (pairs_in map range false) key value ≡ true
        → (in_range range key ≡ true) × (get map key ≡ Some value)
    there has =
        let inside : in_range range key ≡ true = of-key (λ x. in_range range x ≡ true) key value
        (pairs_in map range false) (all_in-pairs_in map range false) has in (
          inside,
          sym (find-within map range key ∙ cond-true (in_range range key) (get map key) None inside)
              ∙ has-found key value (pairs_in map range false) (ordered-pairs_in map range false) has,
        )

    among : (in_range range key ≡ true) × (get map key ≡ Some value)
        → has_pair (pairs_in map range false) key value ≡ true
    among is = found-has key value (pairs_in map range false)
        (find-within map range key ∙ cond-true (in_range range key) (get map key) None is.0 ∙ is.1)
