-- What holds of overlaps, of who admits a place, and of who is asked about it.
use Rattle.std.specs.Prelude.{◌≡◌, ◌<◌, ◌≤◌, ◌↔◌, ℕ, suc, true, false, List, ◌∷◌, ◌++◌, length}
use Rattle.fdb_keys.specs.Points.{Point}
use Rattle.fdb_txn.specs.book.Book.{DatedMove, Place}
use Rattle.fdb_txn.specs.rules.Owners.{owner, owned, asked_at, is_asked}
use Rattle.fdb_txn.specs.rules.Admission.{is_fresh, overlaps_at, overlaps, admits, committed}
use Rattle.fdb_txn.specs.book.History.{IsHistory}

-- two places overlap at a resolver exactly where they do so at some point
abbrev pub OverlapsAtSomePoint : Type 0
OverlapsAtSomePoint =
    (splits : List Point) (i : ℕ) (earlier later : Place)
    → (overlaps splits i earlier later ≡ true) ↔ ((x : Point) × (overlaps_at splits i earlier later x ≡ true))

-- a resolver is asked about a place exactly where it is asked on account of some point
abbrev pub AskedAtSomePoint : Type 0
AskedAtSomePoint =
    (splits : List Point) (i : ℕ) (place : Place)
    → (is_asked splits i place ≡ true) ↔ ((x : Point) × (asked_at splits i place x ≡ true))

-- `owned` holds exactly where the resolver is the owner at some version above low and at most high
abbrev pub OwnedAtSomeVersion : Type 0
OwnedAtSomeVersion =
    (splits : List Point) (i : ℕ) (moves : List DatedMove) (x : Point) (low high : ℕ)
    → (owned splits i moves x low high ≡ true) ↔ ((v : ℕ) × (low < v) × (v ≤ high) × (owner splits moves x v ≡ i))

-- A conflict of the place at resolver i: an earlier place of a version above the place's read version, that i
-- admitted after those before it, and a point at which the two overlap.
pub record Conflict (splits : List Point) (i : ℕ) (earlier : List Place) (place : Place) : Type 0 where
  pub newer : List Place
  pub other : Place
  pub older : List Place
  pub is_earlier : earlier ≡ newer ++ other ∷ older
  pub is_unseen : place.transaction.read < other.version
  pub is_admitted : admits splits i older other ≡ true
  pub point : Point
  pub overlap : overlaps_at splits i other place point ≡ true

-- a resolver admits a place exactly where the place is not old and has no conflict there
abbrev pub AdmitsWithoutConflict : Type 0
AdmitsWithoutConflict =
    (splits : List Point) (i : ℕ) (earlier : List Place) (place : Place)
    → (admits splits i earlier place ≡ true) ↔ ((is_fresh place ≡ true) × (Conflict splits i earlier place → ⊥))

-- resolver i is there, and is asked about the place
abbrev pub IsAmongAsked : List Point → Place → ℕ → Type 0
IsAmongAsked splits place i = (i < suc (length splits)) × (is_asked splits i place ≡ true)

-- a place of a history is committed exactly where each resolver that is asked about it admits it
abbrev pub CommittedByTheAsked : Type 0
CommittedByTheAsked =
    (splits : List Point) (earlier : List Place) (place : Place) → IsHistory (suc (length splits)) (place ∷ earlier)
    → (committed splits earlier place ≡ true) ↔
    ((i : ℕ) → IsAmongAsked splits place i → admits splits i earlier place ≡ true)

-- some resolver is asked about an old place
abbrev pub OldIsAsked : Type 0
OldIsAsked =
    (splits : List Point) (earlier : List Place) (place : Place) → IsHistory (suc (length splits)) (place ∷ earlier)
    → is_fresh place ≡ false → (i : ℕ) × IsAmongAsked splits place i
