-- What a resolver is sent of a place, and what it keeps of the places that it admitted.
use Rattle.std.specs.Prelude.{◌≡◌, ◌≤◌, ℕ, max, Bool, true, ◌&&◌, ◌==◌, nat_lt, List, [], ◌∷◌, if◌then◌else◌}
use Rattle.fdb_keys.specs.Points.{Point}
use Rattle.fdb_keys.specs.Ranges.{in_set}
use Rattle.fdb_txn.specs.book.Book.{Place}
use Rattle.fdb_txn.specs.rules.Owners.{owner, owned, span_begin}
use Rattle.fdb_txn.specs.rules.Admission.{is_fresh, admits}

-- what resolver i is sent of the write set: the points that it owns at the place's version
abbrev pub part_writes : List Point → ℕ → Place → Point → Bool
part_writes splits i place x = in_set place.transaction.writes x && (owner splits place.moves x place.version == i)

-- what resolver i is sent of the read set: the points that it owned at some version of the span
abbrev pub part_reads : List Point → ℕ → Place → Point → Bool
part_reads splits i place x = in_set place.transaction.reads x &&
    owned splits i place.moves x (span_begin place) place.version

-- The greatest version of a place that resolver i admits and that wrote the point where i owned it, 0 where
-- there is none. The newest place is the first.
abbrev pub last_commit_version : List Point → ℕ → List Place → Point → ℕ
last_commit_version splits i [] x = 0
last_commit_version splits i (place ∷ earlier) x =
    if admits splits i earlier place && part_writes splits i place x then max place.version
    (last_commit_version splits i earlier x)
    else last_commit_version splits i earlier x

-- By these versions, one for each point, resolver i admits the place: it is fresh, and no point of the
-- resolver's part of the read set has a version above the read version.
abbrev pub IsAdmittedBy : List Point → ℕ → (Point → ℕ) → Place → Type 0
IsAdmittedBy splits i f place =
    (is_fresh place ≡ true) × ((x : Point) → part_reads splits i place x ≡ true → f x ≤ place.transaction.read)

-- the versions with the place's own at each point of the resolver's part of the write set, if the place was
-- admitted
abbrev pub with_place : List Point → ℕ → Bool → Place → (Point → ℕ) → Point → ℕ
with_place splits i admitted place f x = if admitted && part_writes splits i place x then place.version else f x

-- f and g answer alike whether the version of a point is above a bound, for each bound from the floor on
abbrev pub AgreeFrom : ℕ → (Point → ℕ) → (Point → ℕ) → Type 0
AgreeFrom floor f g = (x : Point) (v : ℕ) → floor ≤ v → nat_lt v (f x) ≡ nat_lt v (g x)

-- for each bound from the floor on, f answers as the last versions of resolver i after these places
abbrev pub IsStateOf : List Point → ℕ → List Place → ℕ → (Point → ℕ) → Type 0
IsStateOf splits i places floor f = AgreeFrom floor f (last_commit_version splits i places)
