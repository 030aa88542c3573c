-- Small books of stamped values, what they leave on the map and what shards are sent of them.
use Rattle.std.specs.Prelude.{◌≡◌, ℕ, List, [], ◌∷◌, codes, replicate}
use Rattle.std.specs.FinMap.{empty}
use Rattle.fdb_keys.specs.Points.{Point}
use Rattle.fdb_keys.specs.Ranges.{single_range}
use Rattle.fdb_mutations.specs.declared.mutation.Mutation.{Mutation}
use Rattle.fdb_mutations.specs.declared.mutation.Mutation.TheVariants.{Set, Stamped}
use Rattle.fdb_mutations.specs.Mutations.{effects}
use Rattle.fdb_mutations.specs.Stamps.{stamp_bytes}
use Rattle.fdb_txn.specs.declared.entry.Entry.{Entry}
use Rattle.fdb_txn.specs.declared.tag_msg.TagMsg.{TagMsg}
use Rattle.fdb_txn.specs.book.Transactions.{Transaction}
use Rattle.fdb_txn.specs.laws.Examples.{at_m, entry_of, messages_from, run_at, reads_and_sets}
use Rattle.fdb_txn.specs.rules.Messages.{HasNoStamped}
use Rattle.fdb_txn.specs.rules.Stamped.{stamped_by}

-- transaction `number` sets the key to a stamp
abbrev pub stamps : ℕ → Point → Transaction
stamps number key =
    record {
      id = record { session = number; number = 0 };
      read = 0;
      reads = [];
      writes = single_range key ∷ [];
      mutations = Stamped key (replicate 10 0) 0 ∷ [];
    }

-- the set of a key that a stamp of the version and the place leaves
abbrev pub stamp_at : (version place : ℕ) → Point → Mutation
stamp_at version place key = Set key (stamp_bytes version place)

-- At 100 transaction 0 stamps a, transaction 1 reads a and sets c, and transaction 2 stamps d. At 200 transaction 3
-- stamps a anew.
abbrev pub two_batches : List Entry
two_batches =
    entry_of 100 0 []
    (stamps 0 (codes "a") ∷ reads_and_sets 1 0 (codes "a" ∷ []) (codes "c" ∷ []) ∷ stamps 2 (codes "d") ∷ [])
    ∷ entry_of 200 100 [] (stamps 3 (codes "a") ∷ [])
    ∷ []

-- a message with a mutation that waits for a stamp, which is none of a book
abbrev pub unstamped : TagMsg
unstamped =
    record { version = 100; prev = 0; body = (0, Stamped (codes "a") (replicate 10 0) 0) ∷ [] }

-- Stamps: those of two places of one batch differ, and so do those of two batches. Place 1 conflicts, and still place 2
-- has the stamp of its own number. Only a Stamped changes.
abbrev pub Stamps : Type 0
Stamps =
    (run_at at_m two_batches 100 ≡ effects empty (stamp_at 100 0 (codes "a") ∷ stamp_at 100 2 (codes "d") ∷ []))
    × (run_at at_m two_batches 200
    ≡ effects empty (stamp_at 100 0 (codes "a") ∷ stamp_at 100 2 (codes "d") ∷ stamp_at 200 0 (codes "a") ∷ []))
    × (messages_from (codes "a") (codes "z") two_batches
    ≡ record { version = 100; prev = 0; body = (0, stamp_at 100 0 (codes "a")) ∷ (2, stamp_at 100 2 (codes "d")) ∷ [] }
    ∷ record { version = 200; prev = 100; body = (0, stamp_at 200 0 (codes "a")) ∷ [] } ∷ [])
    × (stamped_by 100 1 (Set (codes "a") (replicate 10 0) ∷ Stamped (codes "b") (replicate 10 0) 0 ∷ [])
    ≡ Set (codes "a") (replicate 10 0) ∷ stamp_at 100 1 (codes "b") ∷ [])
    × (HasNoStamped unstamped → ⊥)
