-- The steps of the sequencer.
use Rattle.std.specs.Prelude.{ℕ, suc, ◌+◌, ◌||◌, nat_le, [], ◌∷◌, ◌++◌, length, Result, Ok}
use Rattle.fdb_keys.specs.Ranges.{Range, is_empty_range}
use Rattle.fdb_keys.specs.declared.refusal.Refusal.{Refusal}
use Rattle.fdb_keys.specs.declared.refusal.Refusal.TheVariants.{BadConfig, MovesFull}
use Rattle.fdb_txn.specs.Limits.{move_limit}
use Rattle.fdb_sequencer.specs.Sequencer.{set_window_fault}
use Rattle.fdb_roles.specs.Entries.{moves_in}
use Rattle.fdb_machine.specs.machine.Machine.{Machine, Transition, refused_where, refused_by}
use Rattle.fdb_machine.specs.declared.step.Answered.TheVariants as answered

-- Move: the keys of the range go over to a resolver that exists, with the next entry.
unfoldable pub moves : Machine → Range → ℕ → Result Transition Refusal
moves m range to =
    refused_where (nat_le (suc (length m.config.resolver_splits)) to || is_empty_range range) BadConfig
    (refused_where (nat_le move_limit (moves_in m.book + length m.pending)) MovesFull
    (Ok (record {
      answer = answered.Done;
      next = record m { pending = m.pending ++ record { range = range; to = to } ∷ [] };
    })))

-- Window: from the next entry on an entry's horizon lies so far below its version, or stays where it would fall.
unfoldable pub sets_window : Machine → ℕ → Result Transition Refusal
sets_window m window = refused_by (set_window_fault window)
    (Ok (record { answer = answered.Done; next = record m { window = window } }))
