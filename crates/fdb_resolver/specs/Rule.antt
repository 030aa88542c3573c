-- What a resolver says of the places of a part, by the version of each point.
use Rattle.std.specs.Prelude.{◌≡◌, ◌<◌, ◌≤◌, ⊤, ℕ, Bool, true, false, ◌&&◌, ◌==◌, nat_lt, List, [], ◌∷◌, ◌++◌}
use Rattle.std.specs.Prelude.{if◌then◌else◌}
use Rattle.std.specs.List.{list_any}
use Rattle.fdb_keys.specs.Points.{Point}
use Rattle.fdb_keys.specs.Ranges.{Range, in_set}
use Rattle.fdb_resolver.specs.declared.part.Item.{Item}
use Rattle.fdb_resolver.specs.declared.verdict.Verdict.{Verdict}
use Rattle.fdb_resolver.specs.declared.verdict.Verdict.TheVariants.{Yes, Conflict, Old}

-- the transaction has reads, and its read version lies below the horizon
abbrev pub is_old : ℕ → Item → Bool
is_old horizon item = item.has_reads && nat_lt item.read_version horizon

-- some point of the set has a version above this one
abbrev pub HasNewer : (Point → ℕ) → List Range → ℕ → Type 0
HasNewer f set version = (x : Point) × (in_set set x ≡ true) × (version < f x)

-- no point of the set has a version above this one
abbrev pub HasNoNewer : (Point → ℕ) → List Range → ℕ → Type 0
HasNoNewer f set version = (x : Point) → in_set set x ≡ true → f x ≤ version

-- The verdict on a place, at the horizon of its entry and by the versions f of the points: old, or else a
-- conflict where some point that it read has a version above its read version, or else yes.
abbrev pub IsVerdict : ℕ → (Point → ℕ) → Item → Verdict → Type 0
IsVerdict horizon f item Old = is_old horizon item ≡ true
IsVerdict horizon f item Conflict = (is_old horizon item ≡ false) × HasNewer f item.reads item.read_version
IsVerdict horizon f item Yes = (is_old horizon item ≡ false) × HasNoNewer f item.reads item.read_version

-- the versions after a place: it gives the points that it writes its entry's version, if it may commit
abbrev pub versions_with : ℕ → Item → Verdict → (Point → ℕ) → Point → ℕ
versions_with version item Yes f x = if in_set item.writes x then version else f x
versions_with version item Conflict f x = f x
versions_with version item Old f x = f x

-- one verdict on each place of an entry, with the place's number, by the versions after the places before it
abbrev pub AreVerdicts : (version horizon : ℕ) → (Point → ℕ) → List Item → List (ℕ × Verdict) → Type 0
AreVerdicts version horizon f [] [] = ⊤
AreVerdicts version horizon f [] (answer ∷ answers) = ⊥
AreVerdicts version horizon f (item ∷ items) [] = ⊥
AreVerdicts version horizon f (item ∷ items) (answer ∷ answers) =
    (answer.0 ≡ item.place) × IsVerdict horizon f item answer.1
    × AreVerdicts version horizon (versions_with version item answer.1 f) items answers

-- the versions after all places
abbrev pub versions_after : ℕ → (Point → ℕ) → List Item → List (ℕ × Verdict) → Point → ℕ
versions_after version f [] answers = f
versions_after version f (item ∷ items) [] = f
versions_after version f (item ∷ items) (answer ∷ answers) =
    versions_after version (versions_with version item answer.1 f) items answers

-- what a resolver found: numbers of places, each with points
abbrev pub Found : Type 0
Found = List (ℕ × List Range)

-- the set has just the points that the item reads and that have a version above its read version
abbrev pub IsNewerSet : (Point → ℕ) → Item → List Range → Type 0
IsNewerSet f item set = (x : Point) → in_set set x ≡ (in_set item.reads x && nat_lt item.read_version (f x))

-- Of each place in conflict, in order, its number with those points, by the versions after the places before it, and of
-- no other place anything.
abbrev pub AreConflicts : ℕ → (Point → ℕ) → List Item → List (ℕ × Verdict) → Found → Type 0
AreConflicts version f [] answers found = found ≡ []
AreConflicts version f (item ∷ items) [] found = found ≡ []
AreConflicts version f (item ∷ items) ((place, Yes) ∷ answers) found =
    AreConflicts version (versions_with version item Yes f) items answers found
AreConflicts version f (item ∷ items) ((place, Old) ∷ answers) found = AreConflicts version f items answers found
AreConflicts version f (item ∷ items) ((place, Conflict) ∷ answers) [] = ⊥
AreConflicts version f (item ∷ items) ((place, Conflict) ∷ answers) (one ∷ found) =
    (one.0 ≡ item.place) × IsNewerSet f item one.1 × AreConflicts version f items answers found

-- what was found once a place with the verdict was judged, by the versions before it
abbrev pub IsFoundWith : (Point → ℕ) → Item → Verdict → Found → Found → Type 0
IsFoundWith f item Yes found more = more ≡ found
IsFoundWith f item Old found more = more ≡ found
IsFoundWith f item Conflict found more =
    (set : List Range) × IsNewerSet f item set × (more ≡ found ++ (item.place, set) ∷ [])

-- whether a point was found at place p
abbrev pub finds : ℕ → Found → Point → Bool
finds p found x = list_any (λ (one : ℕ × List Range). (one.0 == p) && in_set one.1 x) found
