-- The items of a queue, worked: what waits after a push and no longer after a pop, and which books don't keep them.
use Rattle.std.specs.Prelude.{◌≡◌, ◌++◌, ℕ, List, [], ◌∷◌}
use Rattle.fdb_keys.specs.Points.{Point}
use Rattle.fdb_mutations.specs.declared.mutation.Mutation.TheVariants.{Clear}
use Rattle.fdb_txn.specs.declared.entry.Entry.{Entry}
use Rattle.fdb_txn.specs.declared.txn_id.TxnId.{TxnId}
use Rattle.fdb_txn.specs.book.Book.{seen_of}
use Rattle.fdb_client.specs.declared.program.Op.{Op}
use Rattle.fdb_client.specs.declared.program.Reply.{Reply}
use Rattle.fdb_client.specs.Programs.{commit_request_of}
use Rattle.fdb_layers.specs.Operations.{writing}
use Rattle.fdb_layers.specs.Queue.{item_key, pushing}
use Rattle.fdb_layers.specs.QueueBooks.{IsWaiting, KeepsItems}

-- the first transaction of a session
abbrev pub first_of : ℕ → TxnId
first_of session = record { session = session; number = 0 }

-- the key of session 0's first item
abbrev pub its_key : Point
its_key = item_key (first_of 0)

-- an entry at the version, 100 above the one before, with the first transaction of a session, which did this
abbrev pub entry_at : ℕ → ℕ → ℕ → List (Op × Reply) → Entry
entry_at version prev session ops = record {
  version = version;
  prev = prev;
  horizon = 0;
  moves = [];
  batch = commit_request_of (record { id = first_of session; read_version = 0; ops = ops }) ∷ [];
}

-- the key of the item is cleared
abbrev pub clearing_it : List (Op × Reply)
clearing_it = writing (Clear its_key) ∷ []

-- session 0 pushes 7
abbrev pub pushed : List Entry
pushed = entry_at 100 0 0 (pushing (first_of 0) (7 ∷ [])) ∷ []

-- then session 1 takes it
abbrev pub taken : List Entry
taken = pushed ++ entry_at 200 100 1 clearing_it ∷ []

-- and then session 2 takes it once more
abbrev pub taken_twice : List Entry
taken_twice = taken ++ entry_at 300 200 2 clearing_it ∷ []

-- session 1 takes it, and nobody pushed it
abbrev pub made_up : List Entry
made_up = entry_at 100 0 1 clearing_it ∷ []

pub record WorkedItems : Type 0 where
  pub waits : IsWaiting [] (seen_of pushed).places its_key (7 ∷ [])
  pub no_more : (item : List ℕ) → IsWaiting [] (seen_of taken).places its_key item → ⊥
  pub not_twice : KeepsItems [] taken_twice → ⊥
  pub not_made_up : KeepsItems [] made_up → ⊥
