-- What the rule says of the places of a book.
use Rattle.std.specs.Prelude.{◌≡◌, ◌≤◌, ◌&&◌, ℕ, suc, true, nat_lt, List, ◌∷◌, length, if◌then◌else◌}
use Rattle.fdb_keys.specs.Points.{Point}
use Rattle.fdb_keys.specs.Ranges.{in_set}
use Rattle.fdb_txn.specs.book.Book.{Place}
use Rattle.fdb_txn.specs.rules.Admission.{has_points, is_fresh, admits}
use Rattle.fdb_txn.specs.book.History.{IsHistory}
use Rattle.fdb_txn.specs.rules.Conflicts.{in_conflict_of}
use Rattle.fdb_txn.specs.rules.Resolvers.{part_reads, part_writes, IsStateOf}
use Rattle.fdb_resolver.specs.declared.part.Item.{Item}
use Rattle.fdb_resolver.specs.declared.verdict.Verdict.{Verdict}
use Rattle.fdb_resolver.specs.declared.verdict.Verdict.TheVariants.{Yes, Conflict, Old}
use Rattle.fdb_resolver.specs.Rule.{IsVerdict, versions_with}

-- the item is what resolver i is sent of the place
pub record IsItemOf (splits : List Point) (i : ℕ) (place : Place) (item : Item) : Type 0 where
  pub read : item.read_version ≡ place.transaction.read
  pub has_reads : item.has_reads ≡ has_points place.transaction.reads
  pub reads : (x : Point) → in_set item.reads x ≡ part_reads splits i place x
  pub writes : (x : Point) → in_set item.writes x ≡ part_writes splits i place x

-- what the rule over the book says of a place after the earlier ones
abbrev pub verdict_by_book : List Point → ℕ → List Place → Place → Verdict
verdict_by_book splits i earlier place =
    if is_fresh place then (if admits splits i earlier place then Yes else Conflict) else Old

-- What resolver i says of a place, by a state that answers from a floor on that isn't above the place's
-- horizon, is what the rule over the book says.
abbrev pub VerdictsAreByTheBook : Type 0
VerdictsAreByTheBook =
    (splits : List Point) (i : ℕ) (place : Place) (earlier : List Place) (floor : ℕ) (f : Point → ℕ) (item : Item)
    (verdict : Verdict)
    → IsHistory (suc (length splits)) (place ∷ earlier) → IsStateOf splits i earlier floor f
    → floor ≤ place.horizon
    → IsItemOf splits i place item → IsVerdict place.horizon f item verdict
    → verdict ≡ verdict_by_book splits i earlier place

-- And the versions after the place are again such a state.
abbrev pub PlacesKeepState : Type 0
PlacesKeepState =
    (splits : List Point) (i : ℕ) (place : Place) (earlier : List Place) (floor : ℕ) (f : Point → ℕ) (item : Item)
    (verdict : Verdict)
    → IsHistory (suc (length splits)) (place ∷ earlier) → IsStateOf splits i earlier floor f
    → floor ≤ place.horizon
    → IsItemOf splits i place item → IsVerdict place.horizon f item verdict
    → IsStateOf splits i (place ∷ earlier) floor (versions_with place.version item verdict f)

-- What it finds newer of a place that isn't old is what it finds of the place's conflict set.
abbrev pub FoundByTheBook : Type 0
FoundByTheBook =
    (splits : List Point) (i : ℕ) (place : Place) (earlier : List Place) (floor : ℕ) (f : Point → ℕ) (item : Item)
    → IsHistory (suc (length splits)) (place ∷ earlier) → IsStateOf splits i earlier floor f
    → floor ≤ place.horizon
    → IsItemOf splits i place item → is_fresh place ≡ true
    → (x : Point)
    → (in_set item.reads x && nat_lt item.read_version (f x)) ≡ in_conflict_of splits i earlier place x
