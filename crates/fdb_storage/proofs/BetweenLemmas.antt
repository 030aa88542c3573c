-- Keys in their order, and those between the bounds of a range.
use Rattle.std.specs.Prelude.{⊤}
use Rattle.std.proofs.Common.{◌≡◌, ◌∙◌, sym, ap, refl, subst, true}
use Rattle.std.proofs.Common.{List, [], ◌∷◌, filter, Some, None}
use Rattle.std.proofs.Common.{Less}
use Rattle.std.specs.BTreeMap.{is_at}
use Rattle.std.specs.Cmp.Lexicographic.{slice_cmp, bytes_decides}
use Rattle.std.specs.List.{AllByRecursion}
use Rattle.std.specs.List.Sorted.{IsStrictlySortedBy}
use Rattle.std.specs.Map.{lookup, keys_of}
use Rattle.std.specs.Ordering.{nat_cmp, is_eq}
use Rattle.std.proofs.lemmas.Bool.{cond-false}
use Rattle.std.proofs.lemmas.Map.Text.{is_eq-slice_cmp}
use Rattle.fdb_keys.specs.Points.{Point}
use Rattle.fdb_keys.specs.Ranges.{Range, in_range}
use Rattle.fdb_storage.specs.declared.version_list.VersionedValue.{VersionedValue}
use Rattle.fdb_storage.specs.VersionMaps.{VersionedKeys}

-- ---- keys in their order
abbrev pub IsInOrder : {V : Type 0} → List (Point × V) → Type 0
IsInOrder [] = ⊤
IsInOrder (held ∷ keys) = AllByRecursion (λ later. slice_cmp nat_cmp held.0 later.0 ≡ Less) keys × IsInOrder keys

all-keys : {V : Type 0} (P : Point → Type 0) (keys : List (Point × V)) → AllByRecursion P (keys_of keys)
    → AllByRecursion (λ held. P held.0) keys
all-keys P [] all = tt
all-keys P (held ∷ keys) all = (all.0, all-keys P keys all.1)

pub sorted-from : {V : Type 0} (keys : List (Point × V)) → IsStrictlySortedBy (slice_cmp nat_cmp) (keys_of keys)
    → IsInOrder keys
unfolding IsStrictlySortedBy
sorted-from [] sorted = tt
sorted-from (held ∷ keys) sorted =
    (all-keys (λ y. slice_cmp nat_cmp held.0 y ≡ Less) keys sorted.0, sorted-from keys sorted.1)

-- a point that comes before all keys isn't there
absent-before : {V : Type 0} (x : Point) (keys : List (Point × V))
    → AllByRecursion (λ later. slice_cmp nat_cmp x later.0 ≡ Less) keys
    → lookup (is_at (slice_cmp nat_cmp x)) keys ≡ None
absent-before x [] before = refl
absent-before x (held ∷ keys) before =
    cond-false (is_at (slice_cmp nat_cmp x) held.0) (Some held.1) _ (ap is_eq before.0) ∙ absent-before x keys before.1

pub same_key : (x y : Point) → is_at (slice_cmp nat_cmp x) y ≡ true → x ≡ y
same_key x y same = (bytes_decides x y).0 (sym (is_eq-slice_cmp x y) ∙ same)

pub absent-here : {V : Type 0} (x : Point) (held : Point × V) (keys : List (Point × V)) → IsInOrder (held ∷ keys)
    → is_at (slice_cmp nat_cmp x) held.0 ≡ true → lookup (is_at (slice_cmp nat_cmp x)) keys ≡ None
absent-here x held keys sorted here =
    absent-before x keys (subst (λ (y : Point). AllByRecursion (λ later. slice_cmp nat_cmp y later.0 ≡ Less) keys)
    (sym (same_key x held.0 here)) sorted.0)

-- ---- keys between two bounds
abbrev pub within : Range → VersionedKeys → VersionedKeys
within range keys = filter (λ (held : Point × List VersionedValue). in_range range held.0) keys
