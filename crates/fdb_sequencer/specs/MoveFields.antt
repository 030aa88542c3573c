-- What the own fields of a sequencer's moves say.
use Rattle.std.specs.Prelude.{◌<◌, ◌≤◌, ℕ, [], map, drop, length, vec_len, vec_capacity, IfSome, unwrap_or}
use Rattle.std.specs.List.{AllByRecursion}
use Rattle.fdb_sequencer.specs.declared.moves.Moves.TheInside.{Inside}
use Rattle.fdb_sequencer.specs.Moves.{Moves}

-- for each proxy what comes after the moves that it has had
abbrev pub moves_of : Inside → Moves
moves_of m =
    record {
      pending = unwrap_or m.pending [];
      unlearnt = map (λ (count : ℕ). drop count m.issued.items) m.had.items;
    }

-- what holds of the fields of all moves
pub record AreMoves (m : Inside) : Type 0 where
  -- no proxy has had more moves than took effect
  pub had : AllByRecursion (λ (count : ℕ). count ≤ vec_len m.issued) m.had.items
  -- where some are pending, there is room for them
  pub room : IfSome m.pending (λ moves. (0 < length moves) × (vec_len m.issued < vec_capacity m.issued))
