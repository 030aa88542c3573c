-- The moves of a sequencer, by the version at which they take effect, and which of them each proxy hasn't had.
use Rattle.std.specs.Prelude.{ℕ, ◌++◌, List, [], ◌∷◌, map, replicate, slice_get, slice_set, unwrap_or}
use Rattle.fdb_sequencer.specs.declared.dated.Dated.{Dated}
use Rattle.fdb_txn.specs.declared.entry.Move.{Move}

-- the moves of a version, which are none where it moves nothing
abbrev pub dated : ℕ → List Move → List Dated
dated version [] = []
dated version (move ∷ moves) = record { version = version; moves = move ∷ moves } ∷ []

pub record Moves : Type 0 where
  -- those that take effect with the next ticket that is accepted, the earliest one first
  pub pending : List Move
  -- for each proxy those that it hasn't had, but for the pending ones, by version
  pub unlearnt : List (List Dated)

-- before the first move
abbrev pub no_moves : ℕ → Moves
no_moves proxies = record { pending = []; unlearnt = replicate proxies [] }

-- once one more was made
abbrev pub with_move : Moves → Move → Moves
with_move m move = record m { pending = m.pending ++ move ∷ [] }

-- the moves that the proxy hasn't had, by version
abbrev pub unlearnt_of : Moves → ℕ → List Dated
unlearnt_of m proxy = unwrap_or (slice_get m.unlearnt proxy) []

-- the same, once the pending ones take effect at the version
abbrev pub moves_at : Moves → ℕ → ℕ → List Dated
moves_at m proxy version = unlearnt_of m proxy ++ dated version m.pending

-- once the pending ones took effect at the version
abbrev pub in_effect : Moves → ℕ → Moves
in_effect m version =
    record {
      pending = [];
      unlearnt = map (λ (moves : List Dated). moves ++ dated version m.pending) m.unlearnt;
    }

-- once they did so with a ticket of the proxy, which has had all moves then
abbrev pub handed_out : Moves → ℕ → ℕ → Moves
handed_out m proxy version = record m
    { pending = []; unlearnt = slice_set (in_effect m version).unlearnt proxy [] }
