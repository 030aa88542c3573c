-- How moves are learnt: breakpoints where there were none, and a fresh history for each that a move touches.
use Rattle.std.specs.Prelude.{◌≡◌, ◌<◌, ℕ, Bool, true, List, [], ◌∷◌, ◌++◌, map, fold, length, if◌then◌else◌}
use Rattle.std.specs.BTreeMap.{is_at}
use Rattle.std.specs.BTreeMap.Range.{entries_between}
use Rattle.std.specs.Cmp.Lexicographic.{slice_cmp}
use Rattle.std.specs.List.{AllByRecursion, filter, list_any}
use Rattle.std.specs.Map.{set_value}
use Rattle.std.specs.Ordering.{nat_cmp}
use Rattle.std.specs.declared.ops.Bound.TheVariants.{Included, Excluded}
use Rattle.fdb_keys.specs.Points.{Point}
use Rattle.fdb_keys.specs.Ranges.{Range, in_range, in_set}
use Rattle.fdb_interval.specs.Breakpoints.{Breaks, AreRising}
use Rattle.fdb_txn.specs.declared.entry.Move.{Move}
use Rattle.fdb_owners.specs.declared.history.History.{History}
use Rattle.fdb_owners.specs.declared.pieces.Pieces.{Pieces}
use Rattle.fdb_owners.specs.Ownership.{target_after}
use Rattle.fdb_owners.specs.Pieces.{history_at, has_break, joined, IsPieces}

-- The others have breakpoints more, at which nothing changes.
pub record IsSplit (pieces others : Pieces) : Type 0 where
  pub lowest_same : others.lowest ≡ pieces.lowest
  pub histories : (x : Point) → history_at others x ≡ history_at pieces x
  pub joined_same : joined others ≡ joined pieces
  pub breaks : (x : Point) → has_break pieces x ≡ true → has_break others x ≡ true
  pub kept : (resolvers last : ℕ) → IsPieces resolvers last pieces → IsPieces resolvers last others
  pub rising : AreRising pieces.breaks.entries → AreRising others.breaks.entries

-- there are breakpoints at the range's begin and at its end
abbrev pub HasBounds : Pieces → Range → Type 0
HasBounds pieces range = (has_break pieces range.begin ≡ true) × (has_break pieces range.end ≡ true)

-- the history with one change more, which comes first
abbrev pub changed : ℕ → ℕ → History → History
changed version owner history =
    record { first = history.first; changes = record { version = version; owner = owner } ∷ history.changes }

-- the breakpoints from the range's begin on that come before its end
abbrev pub breaks_of : Range → Breaks History → Breaks History
breaks_of range breaks =
    entries_between (slice_cmp nat_cmp) (Included range.begin) (Excluded range.end) breaks

-- some move's range holds the point
abbrev pub is_moved : List Move → Point → Bool
is_moved moves x = list_any (λ (move : Move). in_range move.range x) moves

-- how many of the breakpoints are at such points
abbrev pub touched_by : List Move → Breaks History → ℕ
touched_by moves breaks = length (filter (λ (piece : Point × History). is_moved moves piece.0) breaks)

-- The ranges of the other moves share no point, and in whichever order these do what the moves do one after another.
pub record Decide (moves decisive : List Move) : Type 0 where
  pub targets : (x : Point) (before : ℕ) → target_after decisive x before ≡ target_after moves x before
  pub once : (x : Point) → length (filter (λ (move : Move). in_range move.range x) decisive)
      ≡ (if is_moved moves x then 1 else 0)
  pub within : (resolvers : ℕ) → AllByRecursion (λ (move : Move). move.to < resolvers) moves
      → AllByRecursion (λ (move : Move). move.to < resolvers) decisive

-- they do, and the set has just the points of the moves' ranges
pub record DecideSoFar (moves : List Move) (covered : List Range) (decisive : List Move) : Type 0 where
  pub points : (x : Point) → in_set covered x ≡ is_moved moves x
  pub decide : Decide moves decisive

-- the ranges go over to the owner
abbrev pub moves_to : ℕ → List Range → List Move
moves_to owner ranges = map (λ (range : Range). record { range = range; to = owner }) ranges

-- those of the move's range, with its change
abbrev pub fresh_by : ℕ → Move → Breaks History → Breaks History
fresh_by version move breaks =
    map (λ (piece : Point × History). (piece.0, changed version move.to piece.1)) (breaks_of move.range breaks)

-- those of each move in turn, each with that move's change alone
abbrev pub fresh_of : ℕ → List Move → Breaks History → Breaks History
fresh_of version [] breaks = []
fresh_of version (move ∷ moves) breaks = fresh_by version move breaks ++ fresh_of version moves breaks

-- the breakpoints with the fresh histories in the place of those at their points
abbrev pub with_fresh : Breaks History → Breaks History → Breaks History
with_fresh breaks fresh =
    fold (λ (left : Breaks History) (piece : Point × History).
    set_value (is_at (slice_cmp nat_cmp piece.0)) left piece.1) breaks fresh
