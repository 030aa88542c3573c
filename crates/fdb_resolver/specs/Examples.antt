-- Refusals of a resolver, which transactions are old, and what is found of those in conflict, computed.
use Rattle.std.specs.Prelude.{◌≡◌, ℕ, Bool, true, false, List, [], ◌∷◌, Some, None, if◌then◌else◌}
use Rattle.fdb_keys.specs.Points.{Point, point_lt}
use Rattle.fdb_keys.specs.Ranges.{Range}
use Rattle.fdb_keys.specs.declared.refusal.Refusal.TheVariants.{NotYet, Stale, Failed, Unknown}
use Rattle.fdb_interval.specs.declared.last_commit.LastCommit.{LastCommit}
use Rattle.fdb_resolver.specs.declared.part.Item.{Item}
use Rattle.fdb_resolver.specs.declared.part.Part.{Part}
use Rattle.fdb_resolver.specs.Resolvers.{Resolver, part_fault}
use Rattle.fdb_resolver.specs.declared.verdict.Verdict.TheVariants.{Yes, Conflict, Old}
use Rattle.fdb_resolver.specs.Rule.{is_old, finds, AreConflicts}

-- resolver 3 after an entry of version 100
abbrev pub resolver : LastCommit → Bool → Resolver
resolver versions is_failed = record { index = 3; last = 100; is_failed = is_failed; versions = versions }

-- the part of a resolver of an entry after the version
abbrev pub part_after : ℕ → ℕ → Part
part_after number prev =
    record { resolver = number; index = 1; version = 300; prev = prev; horizon = 200; items = [] }

-- A part of another resolver comes first, then that memory ran out, then whether the part comes late or early.
abbrev pub WorkedRefusals : Type 0
WorkedRefusals =
    (versions : LastCommit)
    → (part_fault (resolver versions true) (part_after 2 50) ≡ Some Unknown)
    × (part_fault (resolver versions true) (part_after 3 50) ≡ Some Failed)
    × (part_fault (resolver versions true) (part_after 3 100) ≡ Some Failed)
    × (part_fault (resolver versions false) (part_after 2 100) ≡ Some Unknown)
    × (part_fault (resolver versions false) (part_after 3 50) ≡ Some Stale)
    × (part_fault (resolver versions false) (part_after 3 200) ≡ Some (NotYet 200))
    × (part_fault (resolver versions false) (part_after 3 100) ≡ None)

-- a transaction that read at the version, and has reads or has none
abbrev pub item_at : ℕ → Bool → Item
item_at read has_reads =
    record { place = 0; read_version = read; has_reads = has_reads; reads = []; writes = [] }

-- A transaction that reads just at the horizon isn't old, one that reads below it is, and one without reads never is.
abbrev pub WorkedAges : Type 0
WorkedAges =
    (is_old 200 (item_at 200 true) ≡ false)
    × (is_old 200 (item_at 199 true) ≡ true)
    × (is_old 200 (item_at 199 false) ≡ false)
    × (is_old 0 (item_at 0 true) ≡ false)

-- the keys from one letter up to another
abbrev pub letters : ℕ → ℕ → Range
letters begin end = record { begin = begin ∷ []; end = end ∷ [] }

-- place 5 read at 100 and reads the keys from a to d, place 7 those from d to e
abbrev pub readers : List Item
readers =
    record { place = 5; read_version = 100; has_reads = true; reads = letters 97 100 ∷ []; writes = [] }
    ∷ record { place = 7; read_version = 100; has_reads = true; reads = letters 100 101 ∷ []; writes = [] } ∷ []

-- the keys before d were written at 200, the others never
abbrev pub written_below_d : Point → ℕ
written_below_d x = if point_lt x (100 ∷ []) then 200 else 0

-- What a place in conflict has is found at its number alone; nothing is found of a place that may commit, nothing may
-- be missing of one in conflict, and nothing stands at another number.
abbrev pub WorkedFinds : Type 0
WorkedFinds =
    (finds 5 ((5, letters 97 98 ∷ []) ∷ []) (97 ∷ []) ≡ true)
    × (finds 5 ((5, letters 97 98 ∷ []) ∷ []) (98 ∷ []) ≡ false)
    × (finds 4 ((5, letters 97 98 ∷ []) ∷ []) (97 ∷ []) ≡ false)
    × (finds 5 ((4, letters 97 98 ∷ []) ∷ (5, letters 99 100 ∷ []) ∷ []) (99 ∷ []) ≡ true)
    × (AreConflicts 300 written_below_d readers ((5, Yes) ∷ (7, Yes) ∷ []) [])
    × (AreConflicts 300 written_below_d readers ((5, Old) ∷ (7, Yes) ∷ []) [])
    × (AreConflicts 300 written_below_d readers ((5, Conflict) ∷ (7, Yes) ∷ []) [] → ⊥)
    × (AreConflicts 300 written_below_d readers ((5, Conflict) ∷ (7, Yes) ∷ []) ((7, letters 97 100 ∷ []) ∷ []) → ⊥)
    × (AreConflicts 300 written_below_d readers ((5, Conflict) ∷ (7, Yes) ∷ []) ((5, letters 97 99 ∷ []) ∷ []) → ⊥)
    × (AreConflicts 300 written_below_d readers ((5, Yes) ∷ (7, Yes) ∷ []) ((7, letters 100 101 ∷ []) ∷ []) → ⊥)
