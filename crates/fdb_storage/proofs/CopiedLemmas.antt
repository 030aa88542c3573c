-- Pairs that are set in a map.
use Rattle.std.proofs.Common.{◌≡◌, ◌∙◌, sym, ap, ap₂, refl, subst, get_or, ℕ, zero, suc, ◌+◌, ◌<◌, Bool, true, false}
use Rattle.std.proofs.Common.{cond}
use Rattle.std.proofs.Common.{◌||◌, List, [], ◌∷◌, ◌++◌, take, length, Option, Some, None}
use Rattle.std.proofs.Common.{Less, if◌then◌else◌}
use Rattle.std.specs.BTreeMap.{is_at}
use Rattle.std.specs.Cmp.Lexicographic.{slice_cmp, bytes_decides}
use Rattle.std.specs.FinMap.{get}
use Rattle.std.specs.List.{AllByRecursion}
use Rattle.std.specs.List.Sorted.{IsStrictlySortedBy}
use Rattle.std.specs.Map.{lookup, keys_of}
use Rattle.std.specs.Ordering.{nat_cmp, is_eq}
use Rattle.std.proofs.lemmas.Bool.{both_ways, cond-false, cond_both}
use Rattle.std.proofs.lemmas.List.{take_more}
use Rattle.std.proofs.lemmas.List.Sums.{fold-append}
use Rattle.std.proofs.lemmas.Map.Text.{is_eq-slice_cmp}
use Rattle.fdb_keys.specs.Points.{Point, point_eq}
use Rattle.fdb_keys.specs.Ranges.{Range, in_range}
use Rattle.fdb_mutations.specs.declared.mutation.Mutation.TheVariants.{Set}
use Rattle.fdb_mutations.specs.Maps.{Map}
use Rattle.fdb_mutations.specs.Mutations.{effect}
use Rattle.fdb_mutations.proofs.Exports.{at_every_point}
use Rattle.fdb_mutations.specs.Pairs.{pairs_within}
use Rattle.fdb_storage.specs.CutMaps.{set_by, has_key}
use Rattle.fdb_storage.specs.VersionMaps.{VersionedKeys, value_of}
use Rattle.fdb_storage.specs.KeyPages.{pairs_at, pairs_of}
use Rattle.fdb_storage.proofs.BetweenLemmas.{IsInOrder, same_key, sorted-from}
use Rattle.fdb_storage.proofs.PairsLemmas.{lookup-pairs, sorted-pairs}

-- ---- pairs that are set in a map
neither : (a b : Bool) → (a || b) ≡ false → (a ≡ false) × (b ≡ false)
neither true b none = absurd (both_ways true none refl)
neither false b none = (refl, none)

pub set-absent : (x : Point) (pairs : List (Point × List ℕ)) (before : Option (List ℕ)) → has_key x pairs ≡ false
    → set_by pairs x before ≡ before
set-absent x [] before absent = refl
set-absent x (pair ∷ pairs) before absent =
    let parts : (point_eq x pair.0 ≡ false) × (has_key x pairs ≡ false) =
    neither (point_eq x pair.0) (has_key x pairs) absent in
    ap (set_by pairs x) (cond-false (point_eq x pair.0) (Some pair.1) before parts.0)
    ∙ set-absent x pairs before parts.1

-- no other key is the first one
apart-after : (x : Point) (pairs : List (Point × List ℕ))
    → AllByRecursion (λ later. slice_cmp nat_cmp x later.0 ≡ Less) pairs → has_key x pairs ≡ false
apart-after x [] before = refl
apart-after x (pair ∷ pairs) before =
    ap₂ (λ (a b : Bool). a || b) (sym (is_eq-slice_cmp x pair.0) ∙ ap is_eq before.0) (apart-after x pairs before.1)

set-found : (x : Point) (pairs : List (Point × List ℕ)) → IsInOrder pairs
    → set_by pairs x None ≡ lookup (is_at (slice_cmp nat_cmp x)) pairs
set-found x [] sorted = refl
set-found x (pair ∷ pairs) sorted =
    ap (λ (here : Bool). set_by pairs x (if here then Some pair.1 else None)) (sym (is_eq-slice_cmp x pair.0))
    ∙ by_key (is_at (slice_cmp nat_cmp x) pair.0) refl (set-found x pairs sorted.1)
  where
    by_key : (here : Bool) → is_at (slice_cmp nat_cmp x) pair.0 ≡ here
        → set_by pairs x None ≡ lookup (is_at (slice_cmp nat_cmp x)) pairs
        → set_by pairs x (if here then Some pair.1 else None)
        ≡ cond here (Some pair.1) (lookup (is_at (slice_cmp nat_cmp x)) pairs)
    by_key true is others =
        set-absent x pairs (Some pair.1)
        (apart-after x pairs (subst (λ (y : Point). AllByRecursion (λ later. slice_cmp nat_cmp y later.0 ≡ Less) pairs)
        (sym (same_key x pair.0 is)) sorted.0))
    by_key false is others = others

all-within : (P : Point → Type 0) (range : Range) (pairs : List (Point × List ℕ))
    → AllByRecursion (λ pair. P pair.0) pairs → AllByRecursion (λ pair. P pair.0) (pairs_within range pairs)
all-within P range [] all = tt
all-within P range (pair ∷ pairs) all =
    let rest = all-within P range pairs all.1 in
    cond_both (in_range range pair.0) (pair ∷ pairs_within range pairs) (pairs_within range pairs)
    (AllByRecursion (λ it. P it.0)) (λ inside. (all.0, rest)) (λ outside. rest)

in_order-within : (range : Range) (pairs : List (Point × List ℕ)) → IsInOrder pairs
    → IsInOrder (pairs_within range pairs)
in_order-within range [] sorted = tt
in_order-within range (pair ∷ pairs) sorted =
    let rest = in_order-within range pairs sorted.1 in
    cond_both (in_range range pair.0) (pair ∷ pairs_within range pairs) (pairs_within range pairs)
    IsInOrder (λ inside. (all-within (λ y. slice_cmp nat_cmp pair.0 y ≡ Less) range pairs sorted.0, rest))
    (λ outside. rest)

lookup-within : (range : Range) (x : Point) (pairs : List (Point × List ℕ)) → in_range range x ≡ true
    → lookup (is_at (slice_cmp nat_cmp x)) (pairs_within range pairs) ≡ lookup (is_at (slice_cmp nat_cmp x)) pairs
lookup-within range x [] inside = refl
lookup-within range x (pair ∷ pairs) inside =
    by_key (in_range range pair.0) refl (is_at (slice_cmp nat_cmp x) pair.0) refl (lookup-within range x pairs inside)
  where
    by_key : (within : Bool) → in_range range pair.0 ≡ within
        → (here : Bool) → is_at (slice_cmp nat_cmp x) pair.0 ≡ here
        → lookup (is_at (slice_cmp nat_cmp x)) (pairs_within range pairs) ≡ lookup (is_at (slice_cmp nat_cmp x)) pairs
        → lookup (is_at (slice_cmp nat_cmp x))
        (cond within (pair ∷ pairs_within range pairs) (pairs_within range pairs))
        ≡ cond here (Some pair.1) (lookup (is_at (slice_cmp nat_cmp x)) pairs)
    by_key true is here there others =
        ap₂ (λ (b : Bool) (o : Option (List ℕ)). cond b (Some pair.1) o) there others
    by_key false is true there others =
        absurd (both_ways (in_range range pair.0) is (ap (in_range range) (sym (same_key x pair.0 there)) ∙ inside))
    by_key false is false there others = others

apart-within : (range : Range) (x : Point) (pairs : List (Point × List ℕ)) → in_range range x ≡ false
    → has_key x (pairs_within range pairs) ≡ false
apart-within range x [] outside = refl
apart-within range x (pair ∷ pairs) outside =
    by_key (in_range range pair.0) refl (point_eq x pair.0) refl (apart-within range x pairs outside)
  where
    by_key : (within : Bool) → in_range range pair.0 ≡ within → (here : Bool) → point_eq x pair.0 ≡ here
        → has_key x (pairs_within range pairs) ≡ false
        → has_key x (cond within (pair ∷ pairs_within range pairs) (pairs_within range pairs)) ≡ false
    by_key true is true there others =
        absurd (both_ways (in_range range x) outside (ap (in_range range) ((bytes_decides x pair.0).0 there) ∙ is))
    by_key true is false there others = ap₂ (λ (a b : Bool). a || b) there others
    by_key false is here there others = others

-- the pairs in the part, set where nothing stood, are what stands there
pub set-inside : (v : ℕ) (part : Range) (keys : VersionedKeys) (x : Point)
    → IsStrictlySortedBy (slice_cmp nat_cmp) (keys_of keys) → in_range part x ≡ true
    → set_by (pairs_of keys v part false) x None ≡ value_of keys v x
set-inside v part keys x sorted inside =
    let pairs = pairs_at v keys in
    set-found x (pairs_within part pairs) (in_order-within part pairs (sorted-from pairs (sorted-pairs v keys sorted)))
    ∙ lookup-within part x pairs inside
    ∙ lookup-pairs v x keys (sorted-from keys sorted)

pub set-outside : (v : ℕ) (part : Range) (keys : VersionedKeys) (x : Point) → in_range part x ≡ false
    → has_key x (pairs_of keys v part false) ≡ false
set-outside v part keys x outside = apart-within part x (pairs_at v keys) outside

-- one pair after others is set
pub set-more : (x : Point) (pairs : List (Point × List ℕ)) (i : ℕ) (pair : Point × List ℕ) (old mid new : Map)
    → i < length pairs → pair ≡ get_or pairs i pair → get mid x ≡ set_by (take i pairs) x (get old x)
    → new ≡ effect mid (Set pair.0 pair.1) → get new x ≡ set_by (take (i + 1) pairs) x (get old x)
set-more x pairs i pair old mid new inside is earlier set =
    ap (λ (map : Map). get map x) set
    ∙ at_every_point mid (Set pair.0 pair.1) x
    ∙ ap (λ (value : Option (List ℕ)). if point_eq x pair.0 then Some pair.1 else value) earlier
    ∙ sym (fold-append (λ (value : Option (List ℕ)) (it : Point × List ℕ). if point_eq x it.0 then Some it.1 else value)
    (get old x) (take i pairs) (pair ∷ []))
    ∙ ap (λ (some : List (Point × List ℕ)). set_by some x (get old x))
    (ap (λ (one : Point × List ℕ). take i pairs ++ one ∷ []) is ∙ sym (take_more pairs i pair inside))

pub apart-take : (x : Point) (pairs : List (Point × List ℕ)) (i : ℕ) → has_key x pairs ≡ false
    → has_key x (take i pairs) ≡ false
apart-take x pairs zero apart = refl
apart-take x [] (suc i) apart = refl
apart-take x (pair ∷ pairs) (suc i) apart =
    let parts : (point_eq x pair.0 ≡ false) × (has_key x pairs ≡ false) =
    neither (point_eq x pair.0) (has_key x pairs) apart in
    ap₂ (λ (a b : Bool). a || b) parts.0 (apart-take x pairs i parts.1)
