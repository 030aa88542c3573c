-- The keys at which something stands from their newest version on, as a set.
use Rattle.std.proofs.Common.{◌≡◌, ◌∙◌, sym, ap, ap₂, refl, subst, ℕ, ◌≤◌, le_refl, nat_le, Bool, true, false, not}
use Rattle.std.proofs.Common.{cond, ◌||◌, List, [], ◌∷◌, filter, Option, Some, is_some, if◌then◌else◌}
use Rattle.std.proofs.Common.{Result, Ok, Err}
use Rattle.std.specs.Prelude.{◌&&◌, ⊤, OnOk}
use Rattle.std.specs.BTreeMap.{is_at}
use Rattle.std.specs.BTreeMap.Range.{range_contains}
use Rattle.std.specs.Cmp.Lexicographic.{slice_cmp, bytes_decides}
use Rattle.std.specs.List.{list_any}
use Rattle.std.specs.Ordering.{nat_cmp}
use Rattle.std.specs.declared.ops.Bound.TheVariants.{Included, Excluded}
use Rattle.std.proofs.lemmas.Bool.{cond-true, cond-false, le-leb}
use Rattle.std.proofs.lemmas.Map.Text.{is_eq-slice_cmp}
use Rattle.std.proofs.lemmas.Map.Views.{any-filter_same}
use Rattle.fdb_keys.specs.Points.{Point, point_eq}
use Rattle.fdb_keys.specs.Ranges.{Range, in_range}
use Rattle.fdb_mutations.proofs.Exports.{between-within}
use Rattle.fdb_storage.specs.declared.version_list.VersionedValue.{VersionedValue}
use Rattle.fdb_storage.specs.VersionLists.{newest_of, value_up_to}
use Rattle.fdb_storage.specs.VersionMaps.{VersionedKeys, found, listed, versions_at, EndBy, HaveForgotten, HaveLive}
use Rattle.fdb_storage.specs.VersionMaps.{HaveNoted, noted_after}
use Rattle.fdb_storage.specs.Changes.{HavePut}
use Rattle.fdb_storage.proofs.VersionsLemmas.{by_point, found-here, found-elsewhere, same_point}
use Rattle.fdb_storage.proofs.VersionsLemmas.{value-newest}

-- ---- sets of points
-- a set has a point where one of its keys is that
set-has : (x : Point) (keys : List Point)
    → list_any (is_at (slice_cmp nat_cmp x)) keys ≡ list_any (point_eq x) keys
set-has x [] = refl
set-has x (key ∷ keys) = ap₂ (λ (here rest : Bool). here || rest) (is_eq-slice_cmp x key) (set-has x keys)

-- whether the one key is there was changed
set-changed : (key : Point) (is_there : Bool) (old new : List Point)
    → ((x : Point) → list_any (is_at (slice_cmp nat_cmp x)) new
    ≡ cond (is_at (slice_cmp nat_cmp key) x) is_there (list_any (is_at (slice_cmp nat_cmp x)) old))
    → (x : Point) → list_any (point_eq x) new ≡ (if point_eq x key then is_there else list_any (point_eq x) old)
set-changed key is_there old new changed x =
    sym (set-has x new)
    ∙ changed x
    ∙ ap₂ (λ (here was : Bool). cond here is_there was) (same_point key x) (set-has x old)

-- a point lies between the bounds of a range just where it lies in the range
between-bounds : (range : Range) (x : Point)
    → range_contains (slice_cmp nat_cmp) (Included range.begin) (Excluded range.end) x ≡ in_range range x
between-bounds range x =
    sym (one (range_contains (slice_cmp nat_cmp) (Included range.begin) (Excluded range.end) x))
    ∙ ap has_one (between-within range ((x, tt) ∷ []))
    ∙ one (in_range range x)
  where
    has_one : List (Point × ⊤) → Bool
    has_one pairs = list_any (λ (pair : Point × ⊤). true) pairs

    one : (inside : Bool) → has_one (cond inside ((x, tt) ∷ []) []) ≡ inside
    one true = refl
    one false = refl

-- what the set has between the range's bounds
pub set-between : (range : Range) (begin end x : Point) (keys between : List Point) → begin ≡ range.begin
    → end ≡ range.end
    → between ≡ filter (range_contains (slice_cmp nat_cmp) (Included begin) (Excluded end)) keys
    → list_any (point_eq x) between ≡ (in_range range x && list_any (point_eq x) keys)
set-between range begin end x keys between begins ends is =
    ap (list_any (point_eq x)) (is
    ∙ ap₂ (λ (b e : Point). filter (range_contains (slice_cmp nat_cmp) (Included b) (Excluded e)) keys) begins ends)
    ∙ any-filter_same (point_eq x) (range_contains (slice_cmp nat_cmp) (Included range.begin) (Excluded range.end))
    (in_range range x)
    (λ key same.
    between-bounds range key ∙ ap (in_range range) (sym ((bytes_decides x key).0 same)))
    keys

-- ---- what is noted of a key
-- where it changed whether something stands at the key
pub noted-turned : (key : Point) (stood stands is_there : Bool) (old new : List Point) → stood ≡ not is_there
    → stands ≡ is_there
    → ((x : Point) → list_any (is_at (slice_cmp nat_cmp x)) new
    ≡ cond (is_at (slice_cmp nat_cmp key) x) is_there (list_any (is_at (slice_cmp nat_cmp x)) old))
    → HaveNoted key stood stands old new
noted-turned key stood stands is_there old new was is changed x =
    set-changed key is_there old new changed x
    ∙ ap (λ (noted : Bool). if point_eq x key then noted else list_any (point_eq x) old)
    (sym (ap₂ (λ (a b : Bool). noted_after a b (list_any (point_eq x) old)) was is
    ∙ turned is_there (list_any (point_eq x) old)))
  where
    turned : (is_there noted : Bool) → noted_after (not is_there) is_there noted ≡ is_there
    turned true noted = refl
    turned false noted = refl

-- what was put at a key is its newest value
put-newest : (version : ℕ) (value : Option (List ℕ)) (old new : List VersionedValue) → HavePut version value old new
    → newest_of new ≡ value
put-newest version value old new put =
    sym (value-newest version version new put.up_to (le_refl version))
    ∙ put.values version
    ∙ cond-true (nat_le version version) value (value_up_to version old) (le-leb version version (le_refl version))

-- once a value was put at a key, and that is noted
pub live-put : (version : ℕ) (key : Point) (value : Option (List ℕ)) (before after : List VersionedValue)
    (old new : VersionedKeys) (live noted : List Point)
    → ((x : Point) → found new x ≡ cond (is_at (slice_cmp nat_cmp key) x) (Some after) (found old x))
    → before ≡ versions_at old key → HavePut version value before after
    → HaveNoted key (is_some (newest_of before)) (is_some value) live noted → HaveLive old live → HaveLive new noted
live-put version key value before after old new live noted there was put have live_before x =
    by_point x key (list_any (point_eq x) noted ≡ is_some (newest_of (versions_at new x)))
    (λ (same : x ≡ key).
    subst (λ (y : Point). list_any (point_eq y) noted ≡ is_some (newest_of (versions_at new y))) (sym same) here)
    (λ other.
    have x
    ∙ cond-false (point_eq x key) _ (list_any (point_eq x) live) other
    ∙ live_before x
    ∙ sym (ap (λ (o : Option (List VersionedValue)). is_some (newest_of (listed o)))
    (found-elsewhere key (Some after) old new there x other)))
  where
    settled : (stood stands : Bool) → noted_after stood stands stood ≡ stands
    settled true true = refl
    settled true false = refl
    settled false true = refl
    settled false false = refl

    here : list_any (point_eq key) noted ≡ is_some (newest_of (versions_at new key))
    here =
        have key
        ∙ cond-true (point_eq key key) _ (list_any (point_eq key) live) ((bytes_decides key key).1 refl)
        ∙ ap (noted_after (is_some (newest_of before)) (is_some value))
        (live_before key ∙ sym (ap (λ (versions : List VersionedValue). is_some (newest_of versions)) was))
        ∙ settled (is_some (newest_of before)) (is_some value)
        ∙ sym (ap (λ (o : Option (List VersionedValue)). is_some (newest_of (listed o)))
        (found-here key (Some after) old new there)
        ∙ ap is_some (put-newest version value before after put))

-- what is forgotten leaves the newest values
pub live-forgotten : (floor version : ℕ) (old new : VersionedKeys) (live : List Point) → floor ≤ version
    → EndBy version old → HaveForgotten floor old new → HaveLive old live → HaveLive new live
live-forgotten floor version old new live reached ended forgotten live_before x =
    live_before x
    ∙ ap is_some (sym (value-newest version version (versions_at old x) (ended x) (le_refl version))
    ∙ sym (forgotten.values version x reached)
    ∙ value-newest version version (versions_at new x) (forgotten.end_by version ended x) (le_refl version))

-- two facts of a call that isn't refused
pub on_ok-both : {T E : Type 0} (result : Result T E) (P Q R : Type 0) → (P → Q → R) → OnOk result P
    → OnOk result Q → OnOk result R
on_ok-both (Ok given) P Q R step one other = step one other
on_ok-both (Err why) P Q R step one other = tt
