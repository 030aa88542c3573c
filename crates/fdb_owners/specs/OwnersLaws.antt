-- What owners, as they were learnt, have to do with the moves of a book.
use Rattle.std.specs.Prelude.{◌≡◌, ◌<◌, ◌≤◌, ◌↔◌, ℕ, true, List, []}
use Rattle.fdb_keys.specs.Points.{Point}
use Rattle.fdb_txn.specs.declared.entry.Move.{Move}
use Rattle.fdb_txn.specs.book.Book.{DatedMove, add_moves}
use Rattle.fdb_txn.specs.rules.Owners.{owner, owned}
use Rattle.fdb_owners.specs.Ownership.{Ownership, owner_at, owned_between, IsNew, HasLearnt, HasExpired}

-- a resolver owned a point exactly where it was the owner at some version above low and at most high
abbrev pub OwnedAtSomeVersion : Type 0
OwnedAtSomeVersion =
    (owners : Ownership) (i : ℕ) (x : Point) (low high : ℕ)
    → (owned_between owners i x low high ≡ true) ↔ ((v : ℕ) × (low < v) × (v ≤ high) × (owner_at owners x v ≡ i))

-- from the floor on, each point's owner is the one that these moves give it
abbrev pub AgreesWith : Ownership → List DatedMove → Type 0
AgreesWith owners moves = (x : Point) (v : ℕ) → owners.floor ≤ v → owner_at owners x v ≡ owner owners.splits moves x v

-- before anything is learnt, owners are those of a book without moves
abbrev pub NewGoesOn : Type 0
NewGoesOn = (splits : List Point) (owners : Ownership) → IsNew splits owners → AgreesWith owners []

-- what is learnt goes on as the moves of a book do
abbrev pub LearningGoesOn : Type 0
LearningGoesOn =
    (old new : Ownership) (moves : List DatedMove) (version : ℕ) (learnt : List Move) → AgreesWith old moves
    → HasLearnt old version learnt new → AgreesWith new (add_moves version learnt moves)

-- and a greater floor leaves owners those of the same book
abbrev pub ExpiringGoesOn : Type 0
ExpiringGoesOn =
    (old new : Ownership) (moves : List DatedMove) (version : ℕ) → AgreesWith old moves → HasExpired old version new
    → AgreesWith new moves

-- so a resolver owned what it did by the book, at versions above one that isn't below the floor
abbrev pub OwnedByTheBook : Type 0
OwnedByTheBook =
    (owners : Ownership) (moves : List DatedMove) (i : ℕ) (x : Point) (low high : ℕ) → AgreesWith owners moves
    → owners.floor ≤ low → owned_between owners i x low high ≡ owned owners.splits i moves x low high
