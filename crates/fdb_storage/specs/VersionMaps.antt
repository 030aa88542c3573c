-- Keys, each with its versions.
use Rattle.std.specs.Prelude.{◌≡◌, ◌≤◌, ℕ, Bool, true, false, List, [], length, Option, Some, None, is_some}
use Rattle.std.specs.Prelude.{if◌then◌else◌}
use Rattle.std.specs.BTreeMap.{is_at}
use Rattle.std.specs.Cmp.Lexicographic.{slice_cmp}
use Rattle.std.specs.List.{list_any, sum_by}
use Rattle.std.specs.List.Sorted.{IsStrictlySortedBy}
use Rattle.std.specs.Map.{lookup, keys_of, values_of}
use Rattle.std.specs.Ordering.{nat_cmp}
use Rattle.fdb_keys.specs.Points.{Point, point_eq}
use Rattle.fdb_keys.specs.Texts.{is_key}
use Rattle.fdb_storage.specs.declared.version_list.VersionedValue.{VersionedValue}
use Rattle.fdb_storage.specs.VersionLists.{value_up_to, newest_of, AreUpTo}

-- keys in their order, each with its versions, the newest last
abbrev pub VersionedKeys : Type 0
VersionedKeys = List (Point × List VersionedValue)

abbrev pub found : VersionedKeys → Point → Option (List VersionedValue)
found keys x = lookup (is_at (slice_cmp nat_cmp x)) keys

abbrev pub listed : Option (List VersionedValue) → List VersionedValue
listed None = []
listed (Some versions) = versions

-- the versions of the point, and none where it isn't there
abbrev pub versions_at : VersionedKeys → Point → List VersionedValue
versions_at keys x = listed (found keys x)

-- what stands at the point at the version
abbrev pub value_of : VersionedKeys → ℕ → Point → Option (List ℕ)
value_of keys v x = value_up_to v (versions_at keys x)

-- how many versions there are of all keys
abbrev pub versions_of : VersionedKeys → ℕ
versions_of keys = sum_by (λ (versions : List VersionedValue). length versions) (values_of keys)

-- no version is above this one
abbrev pub EndBy : ℕ → VersionedKeys → Type 0
EndBy v keys = (x : Point) → AreUpTo v (versions_at keys x)

-- what is there is a legal key
abbrev pub HaveLegalKeys : VersionedKeys → Type 0
HaveLegalKeys keys = (x : Point) → is_some (found keys x) ≡ true → is_key x ≡ true

-- the points are the keys at which something stands from their newest version on
abbrev pub HaveLive : VersionedKeys → List Point → Type 0
HaveLive keys live = (x : Point) → list_any (point_eq x) live ≡ is_some (newest_of (versions_at keys x))

-- Whether a key is among the points after a change, by whether something stood there before, whether something stands
-- there now, and whether it was among them.
abbrev pub noted_after : (stood stands noted : Bool) → Bool
noted_after true false noted = false
noted_after false true noted = true
noted_after true true noted = noted
noted_after false false noted = noted

-- the key is among the points by that, and others are if they were
abbrev pub HaveNoted : Point → (stood stands : Bool) → (old new : List Point) → Type 0
HaveNoted key stood stands old new =
    (x : Point) → list_any (point_eq x) new
    ≡ (if point_eq x key then noted_after stood stands (list_any (point_eq x) old) else list_any (point_eq x) old)

-- From the floor on each point has what it had. Up to whichever version the versions were, they still are, and the keys
-- are legal if they were.
pub record HaveForgotten (floor : ℕ) (old new : VersionedKeys) : Type 0 where
  pub values : (v : ℕ) (x : Point) → floor ≤ v → value_of new v x ≡ value_of old v x
  pub end_by : (v : ℕ) → EndBy v old → EndBy v new
  pub legal_keys : HaveLegalKeys old → HaveLegalKeys new

abbrev pub AreSorted : VersionedKeys → Type 0
AreSorted keys = IsStrictlySortedBy (slice_cmp nat_cmp) (keys_of keys)
