-- Parts of a range, each with its resolver.
use Rattle.std.specs.Prelude.{◌≡◌, ◌<◌, ℕ, Bool, true, ◌&&◌, ◌||◌, ◌==◌, nat_lt, nat_le, List, [], ◌∷◌}
use Rattle.std.specs.Prelude.{if◌then◌else◌}
use Rattle.std.specs.List.{AllByRecursion, filter, fold, list_any}
use Rattle.fdb_keys.specs.Ordered.{AreOrdered}
use Rattle.fdb_keys.specs.Insertion.{with_range}
use Rattle.fdb_keys.specs.Points.{Point, point_lt}
use Rattle.fdb_keys.specs.Ranges.{Range, in_set}
use Rattle.fdb_keys.specs.Texts.{is_bound}
use Rattle.fdb_txn.specs.rules.Admission.{has_points}
use Rattle.fdb_interval.specs.Breakpoints.{Breaks}
use Rattle.fdb_owners.specs.declared.history.Change.{Change}
use Rattle.fdb_owners.specs.declared.history.History.{History}
use Rattle.fdb_owners.specs.declared.parts.Owned.{Owned}
use Rattle.fdb_owners.specs.Histories.{AreFalling, owner_in}

-- the ranges of the part of resolver i, none where it has no part
abbrev pub ranges_at : List Owned → ℕ → List Range
ranges_at [] i = []
ranges_at (part ∷ parts) i = if part.resolver == i then part.ranges else ranges_at parts i

-- each part is of a resolver with a greater number than those before it
abbrev pub AreRising : List Owned → Type 0
AreRising parts = AreOrdered (λ (part later : Owned). part.resolver < later.resolver) parts

-- The parts of so many resolvers: each has a point, and together they give each resolver the points that it holds.
pub record ArePartsOf (resolvers : ℕ) (held : ℕ → Point → Bool) (parts : List Owned) : Type 0 where
  pub rising : AreRising parts
  pub within : AllByRecursion (λ (part : Owned). part.resolver < resolvers) parts
  pub some : AllByRecursion (λ (part : Owned). has_points part.ranges ≡ true) parts
  pub points : (i : ℕ) (x : Point) → in_set (ranges_at parts i) x ≡ held i x

-- some points of a part may have come to a set, no others did, and none left it
pub record HasSomeOf (part old new : List Range) : Type 0 where
  pub kept : (x : Point) → in_set old x ≡ true → in_set new x ≡ true
  pub added : (x : Point) → in_set new x ≡ true → (in_set part x || in_set old x) ≡ true

-- the changes of the versions above `since` and at most `through`
abbrev pub changes_within : ℕ → ℕ → List Change → List Change
changes_within since through changes =
    filter (λ (change : Change). nat_lt since change.version)
    (filter (λ (change : Change). nat_le change.version through) changes)

-- resolver i is the owner at some version from `since` through `through`: at the first of them, or from a change on
abbrev pub owned_from : History → ℕ → ℕ → ℕ → Bool
owned_from history i since through =
    (owner_in history since == i)
    || list_any (λ (change : Change).
    nat_lt since change.version && nat_le change.version through && (change.owner == i)) history.changes

-- the parts with the range's points in that of resolver i too, which is a new one where it had none
abbrev pub with_part : ℕ → Range → List Owned → List Owned
with_part i range [] = record { resolver = i; ranges = with_range range [] } ∷ []
with_part i range (part ∷ parts) =
    if nat_lt part.resolver i then part ∷ with_part i range parts
    else (if part.resolver == i then record { resolver = i; ranges = with_range range part.ranges } ∷ parts
    else record { resolver = i; ranges = with_range range [] } ∷ part ∷ parts)

-- the parts with the range's points in that of the owner of each change too
abbrev pub with_changes : Range → List Owned → List Change → List Owned
with_changes range parts changes =
    fold (λ (before : List Owned) (change : Change). with_part change.owner range before) parts changes

-- the parts with the range's points in that of each owner at some version from `since` through `through` too
abbrev pub with_owners : History → ℕ → ℕ → Range → List Owned → List Owned
with_owners history since through range parts =
    with_changes range (with_part (owner_in history since) range parts)
    (changes_within since through history.changes)

-- the parts with the points from the begin up to the end too, each in those of the owners of its piece: the history
-- goes from the begin up to the first of the breakpoints
abbrev pub with_pieces : History → ℕ → ℕ → Point → Breaks History → Point → List Owned → List Owned
with_pieces history since through begin [] end parts =
    with_owners history since through (record { begin = begin; end = end }) parts
with_pieces history since through begin (piece ∷ rest) end parts =
    with_pieces piece.1 since through piece.0 rest end
    (with_owners history since through (record { begin = begin; end = piece.0 }) parts)

-- from the begin over the breakpoints up to the end each point may bound a range and comes before the next one, and the
-- changes of each history fall
abbrev pub IsWay : History → Point → Breaks History → Point → Type 0
IsWay history begin [] end =
    (is_bound begin ≡ true) × AreFalling history.changes × (is_bound end ≡ true) × (point_lt begin end ≡ true)
IsWay history begin (piece ∷ rest) end =
    (is_bound begin ≡ true) × AreFalling history.changes × (point_lt begin piece.0 ≡ true)
    × IsWay piece.1 piece.0 rest end
