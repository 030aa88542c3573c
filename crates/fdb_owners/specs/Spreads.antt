-- Parts of a whole set, of which a resolver may have several.
use Rattle.std.specs.Prelude.{◌≡◌, ◌<◌, ◌-◌, ℕ, Bool, true, ◌&&◌, ◌==◌, List, [], length, All, Some}
use Rattle.std.specs.List.{list_any, slice_get}
use Rattle.fdb_keys.specs.Points.{Point}
use Rattle.fdb_keys.specs.Ranges.{Range, in_set}
use Rattle.fdb_txn.specs.rules.Admission.{has_points}
use Rattle.fdb_interval.specs.Breakpoints.{breaks_inside}
use Rattle.fdb_owners.specs.declared.parts.Owned.{Owned}
use Rattle.fdb_owners.specs.declared.pieces.Pieces.{Pieces}
use Rattle.fdb_owners.specs.Parts.{changes_within}
use Rattle.fdb_owners.specs.Pieces.{history_at}

-- the point lies in a part of resolver i
abbrev pub is_held : List Owned → ℕ → Point → Bool
is_held parts i x = list_any (λ (part : Owned). (part.resolver == i) && in_set part.ranges x) parts

-- One look finds the owner of a set: it has a range, no breakpoint lies between its first begin and its last end, and
-- no change of the history there is of a version above `since` and at most `through`.
pub record HasSole (pieces : Pieces) (set : List Range) (since through : ℕ) : Type 0 where
  pub first : Range
  pub last : Range
  pub begins : slice_get set 0 ≡ Some first
  pub ends : slice_get set (length set - 1) ≡ Some last
  pub alone : breaks_inside (record { begin = first.begin; end = last.end }) pieces.breaks.entries ≡ []
  pub still : changes_within since through (history_at pieces first.begin).changes ≡ []

-- each part is of one of so many resolvers, and has a point
abbrev pub AreOwned : ℕ → List Owned → Type 0
AreOwned resolvers = All (λ (part : Owned). (part.resolver < resolvers) × (has_points part.ranges ≡ true))
