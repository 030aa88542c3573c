-- What is put at keys, and what messages make of what stands there.
use Rattle.std.specs.Prelude.{◌≡◌, ℕ, List, Option, None, true, nat_le, fold, if◌then◌else◌}
use Rattle.std.specs.List.{list_any}
use Rattle.fdb_keys.specs.Points.{Point, point_eq}
use Rattle.fdb_keys.specs.Ranges.{Range, in_range}
use Rattle.fdb_mutations.specs.declared.mutation.Mutation.{Mutation}
use Rattle.fdb_mutations.specs.Mutations.{new_value, value_after}
use Rattle.fdb_txn.specs.declared.tag_msg.TagMsg.{TagMsg}
use Rattle.fdb_txn.specs.rules.Messages.{value_with}
use Rattle.fdb_log.specs.Peeks.{through_after}
use Rattle.fdb_storage.specs.declared.version_list.VersionedValue.{VersionedValue}
use Rattle.fdb_storage.specs.VersionLists.{value_up_to, AreUpTo}
use Rattle.fdb_storage.specs.VersionMaps.{VersionedKeys, value_of, EndBy, HaveLegalKeys}

-- From the version on the value stands at the key whose versions they are, and before it what stood there. No version
-- is above this one.
pub record HavePut (version : ℕ) (value : Option (List ℕ)) (old new : List VersionedValue) : Type 0 where
  pub values : (v : ℕ) → value_up_to v new ≡ (if nat_le version v then value else value_up_to v old)
  pub up_to : AreUpTo version new

-- what becomes of what stands at a point
abbrev pub Change : Type 0
Change = Point → Option (List ℕ) → Option (List ℕ)

-- From the version on each point has what the change makes of what it had, and before it what it had. No version is
-- above this one.
pub record HaveChanged (version : ℕ) (change : Change) (old new : VersionedKeys) : Type 0 where
  pub values : (v : ℕ) (x : Point) → value_of new v x
      ≡ (if nat_le version v then change x (value_of old v x) else value_of old v x)
  pub end_by : EndBy version new
  pub legal_keys : HaveLegalKeys new

-- The same at each point of the range.
pub record HaveChangedIn (range : Range) (version : ℕ) (change : Change) (old new : VersionedKeys) : Type 0 where
  pub values : (v : ℕ) (x : Point) → in_range range x ≡ true
      → value_of new v x ≡ (if nat_le version v then change x (value_of old v x) else value_of old v x)
  pub end_by : EndBy version new
  pub legal_keys : HaveLegalKeys new

-- the value at the key, and what was there elsewhere
abbrev pub put_at : Point → Option (List ℕ) → Change
put_at key value x before = if point_eq x key then value else before

-- nothing at any of these points, and what was there elsewhere
abbrev pub cleared_at : List Point → Change
cleared_at keys x before = if list_any (point_eq x) keys then None else before

-- nothing in the range, and what was there elsewhere
abbrev pub cleared_in : Range → Change
cleared_in range x before = if in_range range x then None else before

-- the mutation's new value at the key, and what was there elsewhere
abbrev pub new_at : Point → Mutation → Change
new_at key mutation x before = if point_eq x key then new_value mutation before else before

-- what the mutations make of what was there
abbrev pub changed_by : List Mutation → Change
changed_by mutations x before = fold (value_after x) before mutations

-- Each point of the range has what the messages make of what it had, at version v those of version at most v. No
-- version is above that of the last message, or the one where they began.
pub record HaveFollowed (range : Range) (version : ℕ) (messages : List TagMsg) (old new : VersionedKeys) : Type 0 where
  pub values : (v : ℕ) (x : Point) → in_range range x ≡ true
      → value_of new v x ≡ fold (value_with v x) (value_of old v x) messages
  pub end_by : EndBy (through_after version messages) new
  pub legal_keys : HaveLegalKeys new
