-- What holds of the conflict set of a place, and of what resolvers find of it.
use Rattle.std.specs.Prelude.{◌≡◌, ◌<◌, ◌≤◌, ◌↔◌, ◌&&◌, ℕ, suc, true, false, nat_lt, List, ◌∷◌, ◌++◌, length}
use Rattle.fdb_keys.specs.Points.{Point}
use Rattle.fdb_keys.specs.Ranges.{in_set}
use Rattle.fdb_txn.specs.book.Book.{Place}
use Rattle.fdb_txn.specs.book.History.{IsHistory}
use Rattle.fdb_txn.specs.rules.Owners.{owner, is_asked}
use Rattle.fdb_txn.specs.rules.Admission.{is_fresh, admits, committed}
use Rattle.fdb_txn.specs.rules.Resolvers.{part_reads, IsStateOf}
use Rattle.fdb_txn.specs.rules.Conflicts.{in_conflict, in_conflict_of}

-- A conflict of the place at a point that it read: an earlier place of a version above the place's read version wrote
-- the point, and after those before it was admitted by who owned the point at its version.
pub record ConflictAt (splits : List Point) (earlier : List Place) (place : Place) (x : Point) : Type 0 where
  pub newer : List Place
  pub other : Place
  pub older : List Place
  pub is_earlier : earlier ≡ newer ++ other ∷ older
  pub is_unseen : place.transaction.read < other.version
  pub is_written : in_set other.transaction.writes x ≡ true
  pub is_read : in_set place.transaction.reads x ≡ true
  pub is_admitted : admits splits (owner splits other.moves x other.version) older other ≡ true

-- a point is in the conflict set exactly where there is a conflict at it
abbrev pub ConflictsAtSomeEarlier : Type 0
ConflictsAtSomeEarlier =
    (splits : List Point) (earlier : List Place) (place : Place) (x : Point)
    → (in_conflict splits earlier place x ≡ true) ↔ ConflictAt splits earlier place x

-- a point is in the conflict set of a place of a history exactly where some resolver finds it
abbrev pub ConflictsAreFound : Type 0
ConflictsAreFound =
    (splits : List Point) (earlier : List Place) (place : Place) (x : Point)
    → IsHistory (suc (length splits)) (place ∷ earlier)
    → (in_conflict splits earlier place x ≡ true) ↔
    ((i : ℕ) × (i < suc (length splits)) × (in_conflict_of splits i earlier place x ≡ true))

-- what a resolver finds is in the conflict set
abbrev pub FoundIsInConflict : Type 0
FoundIsInConflict =
    (splits : List Point) (i : ℕ) (earlier : List Place) (place : Place) (x : Point)
    → in_conflict_of splits i earlier place x ≡ true → in_conflict splits earlier place x ≡ true

-- each point of the conflict set was read
abbrev pub ConflictsAreRead : Type 0
ConflictsAreRead =
    (splits : List Point) (earlier : List Place) (place : Place) (x : Point)
    → in_conflict splits earlier place x ≡ true → in_set place.transaction.reads x ≡ true

-- Who finds a point of a fresh place's conflict set is asked about the place, and the point is of its part of the read
-- set.
abbrev pub FinderIsAsked : Type 0
FinderIsAsked =
    (splits : List Point) (i : ℕ) (earlier : List Place) (place : Place) (x : Point)
    → IsHistory (suc (length splits)) (place ∷ earlier) → is_fresh place ≡ true
    → in_conflict_of splits i earlier place x ≡ true
    → (part_reads splits i place x ≡ true) × (is_asked splits i place ≡ true)

-- A fresh place of a history is committed exactly where its conflict set has no point. An old one never is, whatever
-- its conflict set has.
abbrev pub CommittedWithoutConflict : Type 0
CommittedWithoutConflict =
    (splits : List Point) (earlier : List Place) (place : Place) → IsHistory (suc (length splits)) (place ∷ earlier)
    → is_fresh place ≡ true
    → (committed splits earlier place ≡ true) ↔ ((x : Point) → in_conflict splits earlier place x ≡ false)

-- the conflict set of a fresh place that isn't committed has some point
abbrev pub RefusedByConflict : Type 0
RefusedByConflict =
    (splits : List Point) (earlier : List Place) (place : Place) → IsHistory (suc (length splits)) (place ∷ earlier)
    → is_fresh place ≡ true → committed splits earlier place ≡ false
    → (x : Point) × (in_conflict splits earlier place x ≡ true)

-- A resolver finds, by a state that answers from a floor on which isn't above the horizon of the fresh place, the
-- points of its part of the read set that have a version above the read version.
abbrev pub StateFindsConflicts : Type 0
StateFindsConflicts =
    (splits : List Point) (i : ℕ) (place : Place) (earlier : List Place) (floor : ℕ) (f : Point → ℕ)
    → IsHistory (suc (length splits)) (place ∷ earlier) → IsStateOf splits i earlier floor f
    → floor ≤ place.horizon → is_fresh place ≡ true
    → (x : Point) → (part_reads splits i place x && nat_lt place.transaction.read (f x))
    ≡ in_conflict_of splits i earlier place x
