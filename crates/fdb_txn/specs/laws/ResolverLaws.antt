-- What a resolver says of a place, and what it has to keep for that.
use Rattle.std.specs.Prelude.{◌≡◌, ◌↔◌, ◌⊎◌, ◌||◌, ◌≤◌, ℕ, suc, true, List, ◌∷◌, length}
use Rattle.fdb_keys.specs.Points.{Point}
use Rattle.fdb_txn.specs.book.Book.{Place}
use Rattle.fdb_txn.specs.rules.Owners.{is_asked}
use Rattle.fdb_txn.specs.rules.Admission.{admits}
use Rattle.fdb_txn.specs.book.History.{IsHistory}
use Rattle.fdb_txn.specs.rules.Resolvers.{part_writes, part_reads, last_commit_version, IsAdmittedBy, with_place}
use Rattle.fdb_txn.specs.rules.Resolvers.{AgreeFrom, IsStateOf}

-- One version for each point decides: a resolver admits a place exactly where the place is fresh and no point
-- of the resolver's part of its read set has a last version above its read version.
abbrev pub LastVersionsDecide : Type 0
LastVersionsDecide =
    (splits : List Point) (i : ℕ) (place : Place) (earlier : List Place)
    → IsHistory (suc (length splits)) (place ∷ earlier)
    → (admits splits i earlier place ≡ true) ↔ IsAdmittedBy splits i (last_commit_version splits i earlier) place

-- One place more is one step: the last versions become the place's own at the resolver's part of its write
-- set, where the resolver admits it, and stay as they were elsewhere.
abbrev pub OnePlaceMore : Type 0
OnePlaceMore =
    (splits : List Point) (i : ℕ) (place : Place) (earlier : List Place) (x : Point)
    → IsHistory (suc (length splits)) (place ∷ earlier)
    → last_commit_version splits i (place ∷ earlier) x ≡ with_place splits i (admits splits i earlier place) place
    (last_commit_version splits i earlier) x

-- A resolver is asked about a place, be it old or fresh, exactly where it has a part of it: some point of the write
-- set or of the read set that it is sent.
abbrev pub AskedWhereItHasAPart : Type 0
AskedWhereItHasAPart =
    (splits : List Point) (i : ℕ) (place : Place)
    → (is_asked splits i place ≡ true) ↔
    ((x : Point) × (part_writes splits i place x || part_reads splits i place x ≡ true))

-- A state that answers from a floor on, which isn't above the place's horizon, decides as the rule does.
abbrev pub StateDecides : Type 0
StateDecides =
    (splits : List Point) (i : ℕ) (place : Place) (earlier : List Place) (floor : ℕ) (f : Point → ℕ)
    → IsHistory (suc (length splits)) (place ∷ earlier) → IsStateOf splits i earlier floor f
    → floor ≤ place.horizon
    → (admits splits i earlier place ≡ true) ↔ IsAdmittedBy splits i f place

-- A state takes a place in by the resolver's part of its write set alone, and answers from the same floor on.
abbrev pub StateTakesPlace : Type 0
StateTakesPlace =
    (splits : List Point) (i : ℕ) (place : Place) (earlier : List Place) (floor : ℕ) (f : Point → ℕ)
    → IsHistory (suc (length splits)) (place ∷ earlier) → IsStateOf splits i earlier floor f
    → IsStateOf splits i (place ∷ earlier) floor (with_place splits i (admits splits i earlier place) place f)

-- A state may forget: versions that agree with it from a floor on that is no less are a state from there on.
abbrev pub StateForgets : Type 0
StateForgets =
    (splits : List Point) (i : ℕ) (places : List Place) (floor higher : ℕ) (f g : Point → ℕ)
    → IsStateOf splits i places floor f → floor ≤ higher → AgreeFrom higher g f → IsStateOf splits i places higher g

-- Versions at or below the floor may be replaced by any others at or below it: from the floor on all agrees.
abbrev pub ForgottenAgree : Type 0
ForgottenAgree =
    (floor : ℕ) (f g : Point → ℕ) → ((x : Point) → (g x ≡ f x) ⊎ ((f x ≤ floor) × (g x ≤ floor))) → AgreeFrom floor g f
