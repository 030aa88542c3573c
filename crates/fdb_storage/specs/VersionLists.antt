-- What stood at a key when.
use Rattle.std.specs.Prelude.{◌≢◌, ◌<◌, ◌≤◌, ⊤, ℕ, Bool, true, false, ◌+◌, ◌==◌, nat_le, nat_eq, fold}
use Rattle.std.specs.Prelude.{List, [], ◌∷◌, Option, None, is_some, if◌then◌else◌}
use Rattle.std.specs.List.{AllByRecursion}
use Rattle.std.specs.Option.{option_eq}
use Rattle.std.specs.Cmp.Lexicographic.{pointwise}
use Rattle.fdb_keys.specs.Ordered.{AreOrdered}
use Rattle.fdb_txn.specs.Versions.{changes_by, count_between}
use Rattle.fdb_storage.specs.declared.version_list.VersionedValue.{VersionedValue}

-- ---- what stands at a version
-- the value of the last of the versions up to this one, from nothing
abbrev pub value_up_to : ℕ → List VersionedValue → Option (List ℕ)
value_up_to v values =
    fold (λ (before : Option (List ℕ)) (next : VersionedValue). if nat_le next.version v then next.value else before)
    None values

-- the value of the last version
abbrev pub newest_of : List VersionedValue → Option (List ℕ)
newest_of values = fold (λ (before : Option (List ℕ)) (next : VersionedValue). next.value) None values

-- whether the last version is this one
abbrev pub ends_at : ℕ → List VersionedValue → Bool
ends_at v values = fold (λ (before : Bool) (next : VersionedValue). next.version == v) false values

-- whether the last version, if there is one, is at most this one
abbrev pub is_last_up_to : ℕ → List VersionedValue → Bool
is_last_up_to v values = fold (λ (before : Bool) (next : VersionedValue). nat_le next.version v) true values

-- each version is at most this one
abbrev pub AreUpTo : ℕ → List VersionedValue → Type 0
AreUpTo v values = AllByRecursion (λ (next : VersionedValue). next.version ≤ v) values

-- each version is below this one
abbrev pub AreBelow : ℕ → List VersionedValue → Type 0
AreBelow v values = AllByRecursion (λ (next : VersionedValue). next.version < v) values

-- each version is above this one
abbrev pub AreAbove : ℕ → List VersionedValue → Type 0
AreAbove v values = AllByRecursion (λ (next : VersionedValue). v < next.version) values

-- ---- which lists are kept
-- each version is below those after it
abbrev pub AreRising : List VersionedValue → Type 0
AreRising values = AreOrdered (λ (next later : VersionedValue). next.version < later.version) values

-- each value is another one than the one before it, the first one than what stood before
abbrev pub AreChanges : Option (List ℕ) → List VersionedValue → Type 0
AreChanges before [] = ⊤
AreChanges before (next ∷ later) = (next.value ≢ before) × AreChanges next.value later

-- the versions rise, and each value is another one than the one before it, the first one than none
pub record IsVersionList (values : List VersionedValue) : Type 0 where
  pub rising : AreRising values
  pub changes : AreChanges None values

-- ---- how many versions have to be kept
abbrev pub same_value : Option (List ℕ) → Option (List ℕ) → Bool
same_value = option_eq (pointwise nat_eq)

-- whether another value stands at a version than at the one before
abbrev pub changes_at : (ℕ → Option (List ℕ)) → ℕ → Bool
changes_at = changes_by same_value

-- the number of versions above the floor, and at most `through`, at which another value stands than at the one before,
-- and one more where a value stands at the floor
abbrev pub kept_from : (ℕ → Option (List ℕ)) → ℕ → ℕ → ℕ
kept_from value_of floor through =
    count_between (changes_at value_of) floor through + (if is_some (value_of floor) then 1 else 0)
