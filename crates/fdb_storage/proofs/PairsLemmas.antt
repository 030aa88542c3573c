-- The keys at which something stands at a version, each with that.
use Rattle.std.proofs.Common.{◌≡◌, ◌∙◌, sym, ap, ap₂, refl, ℕ, zero, suc, Bool, true, false, cond}
use Rattle.std.proofs.Common.{List, [], ◌∷◌, ◌++◌, filter, take, reverse, length, Option, Some, None, is_some}
use Rattle.std.proofs.Common.{Less}
use Rattle.std.specs.BTreeMap.{is_at}
use Rattle.std.specs.Cmp.Lexicographic.{slice_cmp}
use Rattle.std.specs.FinMap.{get, from_entries}
use Rattle.std.specs.List.{AllByRecursion}
use Rattle.std.specs.List.Sorted.{IsStrictlySortedBy}
use Rattle.std.specs.Map.{lookup, keys_of}
use Rattle.std.specs.Ordering.{nat_cmp}
use Rattle.std.proofs.lemmas.Bool.{both_ways, cond-true, cond-false}
use Rattle.std.proofs.lemmas.List.{append_assoc, append-nil, reverse-append}
use Rattle.fdb_keys.specs.Points.{Point}
use Rattle.fdb_keys.specs.Ranges.{Range, in_range}
use Rattle.fdb_mutations.specs.Maps.{Map}
use Rattle.fdb_mutations.specs.Pairs.{pairs_within, pairs_in}
use Rattle.fdb_mutations.proofs.Exports.{get-pairs, entries-sorted, same_values, all-passes}
use Rattle.fdb_storage.specs.declared.version_list.VersionedValue.{VersionedValue}
use Rattle.fdb_storage.specs.VersionLists.{value_up_to}
use Rattle.fdb_storage.specs.KeyPages.{pair_of}
use Rattle.fdb_storage.specs.VersionMaps.{VersionedKeys, found, listed, value_of}
use Rattle.fdb_storage.specs.KeyPages.{pairs_at, pairs_of, is_live}
use Rattle.fdb_storage.proofs.BetweenLemmas.{IsInOrder, absent-here, sorted-from, within}

-- ---- what stands at the version
pub pairs-append : (v : ℕ) (keys others : VersionedKeys)
    → pairs_at v (keys ++ others) ≡ pairs_at v keys ++ pairs_at v others
pairs-append v [] others = refl
pairs-append v (held ∷ keys) others =
    ap (λ (rest : List (Point × List ℕ)). pair_of held.0 (value_up_to v held.1) ++ rest) (pairs-append v keys others)
    ∙ sym (append_assoc (pair_of held.0 (value_up_to v held.1)) (pairs_at v keys) (pairs_at v others))

reverse-pair : (key : Point) (value : Option (List ℕ)) → reverse (pair_of key value) ≡ pair_of key value
reverse-pair key None = refl
reverse-pair key (Some value) = refl

pub pairs-reverse : (v : ℕ) (keys : VersionedKeys) → pairs_at v (reverse keys) ≡ reverse (pairs_at v keys)
pairs-reverse v [] = refl
pairs-reverse v (held ∷ keys) =
    ap (pairs_at v) (reverse-append (held ∷ []) keys)
    ∙ pairs-append v (reverse keys) (held ∷ [])
    ∙ ap₂ (λ (a b : List (Point × List ℕ)). a ++ b) (pairs-reverse v keys)
    (append-nil (pair_of held.0 (value_up_to v held.1)) ∙ sym (reverse-pair held.0 (value_up_to v held.1)))
    ∙ sym (reverse-append (pair_of held.0 (value_up_to v held.1)) (pairs_at v keys))

pub pairs-live : (v : ℕ) (keys : VersionedKeys) → pairs_at v (filter (is_live v) keys) ≡ pairs_at v keys
pairs-live v [] = refl
pairs-live v (held ∷ keys) = by_value (value_up_to v held.1) refl (pairs-live v keys)
  where
    by_value : (value : Option (List ℕ)) → value_up_to v held.1 ≡ value
        → pairs_at v (filter (is_live v) keys) ≡ pairs_at v keys
        → pairs_at v (cond (is_some value) (held ∷ filter (is_live v) keys) (filter (is_live v) keys))
        ≡ pair_of held.0 value ++ pairs_at v keys
    by_value None is others = others
    by_value (Some value) is others =
        ap₂ (λ (first rest : List (Point × List ℕ)). first ++ rest) (ap (pair_of held.0) is) others

pub pairs-within : (v : ℕ) (range : Range) (keys : VersionedKeys)
    → pairs_at v (within range keys) ≡ pairs_within range (pairs_at v keys)
pairs-within v range [] = refl
pairs-within v range (held ∷ keys) =
    by_value (value_up_to v held.1) refl (in_range range held.0) refl (pairs-within v range keys)
  where
    by_value : (value : Option (List ℕ)) → value_up_to v held.1 ≡ value
        → (inside : Bool) → in_range range held.0 ≡ inside
        → pairs_at v (within range keys) ≡ pairs_within range (pairs_at v keys)
        → pairs_at v (cond inside (held ∷ within range keys) (within range keys))
        ≡ pairs_within range (pair_of held.0 value ++ pairs_at v keys)
    by_value None is true there others =
        ap (λ (value : Option (List ℕ)). pair_of held.0 value ++ pairs_at v (within range keys)) is
        ∙ others
    by_value None is false there others = others
    by_value (Some value) is true there others =
        ap₂ (λ (first rest : List (Point × List ℕ)). first ++ rest) (ap (pair_of held.0) is) others
        ∙ sym (cond-true (in_range range held.0) ((held.0, value) ∷ pairs_within range (pairs_at v keys))
        (pairs_within range (pairs_at v keys)) there)
    by_value (Some value) is false there others =
        others
        ∙ sym (cond-false (in_range range held.0) ((held.0, value) ∷ pairs_within range (pairs_at v keys))
        (pairs_within range (pairs_at v keys)) there)

-- ---- keys at all of which something stands
abbrev pub AreLive : ℕ → VersionedKeys → Type 0
AreLive v keys = AllByRecursion (λ (held : Point × List VersionedValue). is_live v held ≡ true) keys

pub take-live : (v count : ℕ) (keys : VersionedKeys) → AreLive v keys
    → pairs_at v (take count keys) ≡ take count (pairs_at v keys)
take-live v zero keys live = refl
take-live v (suc count) [] live = refl
take-live v (suc count) (held ∷ keys) live = by_value (value_up_to v held.1) live.0 (take-live v count keys live.1)
  where
    by_value : (value : Option (List ℕ)) → is_some value ≡ true
        → pairs_at v (take count keys) ≡ take count (pairs_at v keys)
        → pair_of held.0 value ++ pairs_at v (take count keys)
        ≡ take (suc count) (pair_of held.0 value ++ pairs_at v keys)
    by_value None some others = absurd (both_ways false refl some)
    by_value (Some value) some others = ap (λ (rest : List (Point × List ℕ)). (held.0, value) ∷ rest) others

pub length-live : (v : ℕ) (keys : VersionedKeys) → AreLive v keys → length (pairs_at v keys) ≡ length keys
length-live v [] live = refl
length-live v (held ∷ keys) live = by_value (value_up_to v held.1) live.0 (length-live v keys live.1)
  where
    by_value : (value : Option (List ℕ)) → is_some value ≡ true → length (pairs_at v keys) ≡ length keys
        → length (pair_of held.0 value ++ pairs_at v keys) ≡ suc (length keys)
    by_value None some others = absurd (both_ways false refl some)
    by_value (Some value) some others = ap suc others

pub all-live : (v : ℕ) (keys : VersionedKeys) → AreLive v (filter (is_live v) keys)
all-live v keys = all-passes (is_live v) keys

-- ---- the pairs at a version, as those of a map
all-pairs : (P : Point → Type 0) (v : ℕ) (keys : VersionedKeys) → AllByRecursion P (keys_of keys)
    → AllByRecursion P (keys_of (pairs_at v keys))
all-pairs P v [] all = tt
all-pairs P v (held ∷ keys) all = by_value (value_up_to v held.1) (all-pairs P v keys all.1)
  where
    by_value : (value : Option (List ℕ)) → AllByRecursion P (keys_of (pairs_at v keys))
        → AllByRecursion P (keys_of (pair_of held.0 value ++ pairs_at v keys))
    by_value None others = others
    by_value (Some value) others = (all.0, others)

sorted-more : (value : Option (List ℕ)) (key : Point) (pairs : List (Point × List ℕ))
    → AllByRecursion (λ y. slice_cmp nat_cmp key y ≡ Less) (keys_of pairs)
    → IsStrictlySortedBy (slice_cmp nat_cmp) (keys_of pairs)
    → IsStrictlySortedBy (slice_cmp nat_cmp) (keys_of (pair_of key value ++ pairs))
unfolding IsStrictlySortedBy
sorted-more None key pairs later sorted = sorted
sorted-more (Some value) key pairs later sorted = (later, sorted)

pub sorted-pairs : (v : ℕ) (keys : VersionedKeys) → IsStrictlySortedBy (slice_cmp nat_cmp) (keys_of keys)
    → IsStrictlySortedBy (slice_cmp nat_cmp) (keys_of (pairs_at v keys))
unfolding IsStrictlySortedBy
sorted-pairs v [] sorted = tt
sorted-pairs v (held ∷ keys) sorted =
    sorted-more (value_up_to v held.1) held.0 (pairs_at v keys)
    (all-pairs (λ y. slice_cmp nat_cmp held.0 y ≡ Less) v keys sorted.0) (sorted-pairs v keys sorted.1)

pub lookup-pairs : (v : ℕ) (x : Point) (keys : VersionedKeys) → IsInOrder keys
    → lookup (is_at (slice_cmp nat_cmp x)) (pairs_at v keys) ≡ value_of keys v x
lookup-pairs v x [] sorted = refl
lookup-pairs v x (held ∷ keys) sorted =
    by_value (value_up_to v held.1) refl (is_at (slice_cmp nat_cmp x) held.0) refl (lookup-pairs v x keys sorted.1)
  where
    by_value : (value : Option (List ℕ)) → value_up_to v held.1 ≡ value
        → (here : Bool) → is_at (slice_cmp nat_cmp x) held.0 ≡ here
        → lookup (is_at (slice_cmp nat_cmp x)) (pairs_at v keys) ≡ value_of keys v x
        → lookup (is_at (slice_cmp nat_cmp x)) (pair_of held.0 value ++ pairs_at v keys)
        ≡ value_up_to v (listed (cond here (Some held.1) (found keys x)))
    by_value None is true there others =
        others
        ∙ ap (λ (o : Option (List VersionedValue)). value_up_to v (listed o)) (absent-here x held keys sorted there)
        ∙ sym is
    by_value None is false there others = others
    by_value (Some value) is true there others =
        cond-true (is_at (slice_cmp nat_cmp x) held.0) (Some value) _ there ∙ sym is
    by_value (Some value) is false there others =
        cond-false (is_at (slice_cmp nat_cmp x) held.0) (Some value) _ there ∙ others

pub has-pairs : (v : ℕ) (x : Point) (keys : VersionedKeys) → IsStrictlySortedBy (slice_cmp nat_cmp) (keys_of keys)
    → get (from_entries {R = slice_cmp nat_cmp} (pairs_at v keys)) x ≡ value_of keys v x
has-pairs v x keys sorted = get-pairs (pairs_at v keys) x ∙ lookup-pairs v x keys (sorted-from keys sorted)

-- a map that has the values in the range has these pairs there
pub pairs-in_map : (v : ℕ) (range : Range) (is_reverse : Bool) (keys : VersionedKeys) (map : Map)
    → IsStrictlySortedBy (slice_cmp nat_cmp) (keys_of keys)
    → ((x : Point) → in_range range x ≡ true → get map x ≡ value_of keys v x)
    → pairs_of keys v range is_reverse ≡ pairs_in map range is_reverse
pairs-in_map v range is_reverse keys map sorted has =
    by_order is_reverse
    ∙ same_values (from_entries (pairs_at v keys)) map range is_reverse
    (λ x inside. has-pairs v x keys sorted ∙ sym (has x inside))
  where
    by_order : (b : Bool) → pairs_of keys v range b ≡ pairs_in (from_entries (pairs_at v keys)) range b
    by_order true =
        ap (λ (pairs : List (Point × List ℕ)). reverse (pairs_within range pairs))
        (sym (entries-sorted (pairs_at v keys) (sorted-pairs v keys sorted)))
    by_order false =
        ap (pairs_within range) (sym (entries-sorted (pairs_at v keys) (sorted-pairs v keys sorted)))
