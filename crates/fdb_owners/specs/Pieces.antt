-- Pieces of the keys: breakpoints, each with the history of the keys from it up to the next one.
use Rattle.std.specs.Prelude.{◌≡◌, ◌≤◌, ℕ, Bool, true, is_some, [], ◌∷◌, if◌then◌else◌}
use Rattle.std.specs.BTreeMap.{is_at}
use Rattle.std.specs.Cmp.Lexicographic.{slice_cmp}
use Rattle.std.specs.List.{AllByRecursion}
use Rattle.std.specs.Map.{lookup}
use Rattle.std.specs.Ordering.{nat_cmp}
use Rattle.fdb_keys.specs.Points.{Point}
use Rattle.fdb_keys.specs.Texts.{is_bound}
use Rattle.fdb_interval.specs.Breakpoints.{Breaks, value_from}
use Rattle.fdb_owners.specs.declared.history.History.{History}
use Rattle.fdb_owners.specs.declared.pieces.Pieces.{Pieces}
use Rattle.fdb_owners.specs.Histories.{IsHistory, owner_in, same_history}

-- the history of the point: that of the last breakpoint at or before it, of the front where there is none
abbrev pub history_at : Pieces → Point → History
history_at pieces x = value_from pieces.lowest pieces.breaks.entries x

-- whether there is a breakpoint at the point
abbrev pub has_break : Pieces → Point → Bool
has_break pieces x = is_some (lookup (is_at (slice_cmp nat_cmp x)) pieces.breaks.entries)

-- the breakpoints without those where the history is the one before
abbrev pub joined_after : History → Breaks History → Breaks History
joined_after before [] = []
joined_after before (piece ∷ rest) =
    if same_history piece.1 before then joined_after before rest else piece ∷ joined_after piece.1 rest

abbrev pub joined : Pieces → Breaks History
joined pieces = joined_after pieces.lowest pieces.breaks.entries

-- each history is one of so many resolvers up to the last version, and each breakpoint may bound a range
pub record IsPieces (resolvers last : ℕ) (pieces : Pieces) : Type 0 where
  pub lowest : IsHistory resolvers last pieces.lowest
  pub breaks : AllByRecursion (λ (piece : Point × History). (is_bound piece.0 ≡ true)
      × IsHistory resolvers last piece.1)
      pieces.breaks.entries

-- from a version on each point has the same owner
abbrev pub AgreeFrom : ℕ → Pieces → Pieces → Type 0
AgreeFrom floor pieces others =
    (x : Point) (v : ℕ) → floor ≤ v → owner_in (history_at others x) v ≡ owner_in (history_at pieces x) v

-- there are histories, of some number of resolvers, and up to some version
abbrev pub HaveHistories : Pieces → Type 0
HaveHistories pieces = (resolvers : ℕ) × (last : ℕ) × IsPieces resolvers last pieces

-- of however many resolvers the histories are and up to whichever version, they stay so
abbrev pub KeepHistories : Pieces → Pieces → Type 0
KeepHistories old new = (resolvers last : ℕ) → IsPieces resolvers last old → IsPieces resolvers last new
