-- What is read off the entries of a book, and which entry a ticket is for.
use Rattle.std.specs.Prelude.{◌≡◌, ℕ, ◌<◌, List, take, Some, slice_get, [], ◌∷◌, ◌++◌, length, sum_by}
use Rattle.fdb_txn.specs.declared.entry.Entry.{Entry}
use Rattle.fdb_txn.specs.book.Book.{last_version}
use Rattle.fdb_txn.specs.book.Transactions.{Transaction}
use Rattle.fdb_sequencer.specs.declared.dated.Dated.{Dated}
use Rattle.fdb_sequencer.specs.Moves.{dated}
use Rattle.fdb_sequencer.specs.declared.ticket.Ticket.{Ticket}

-- each entry's version is above that of the entry before it
abbrev pub IsRising : List Entry → Type 0
IsRising book = (i : ℕ) (entry : Entry) → slice_get book i ≡ Some entry → last_version (take i book) < entry.version

-- the moves of the entries, by version
abbrev pub dated_moves : List Entry → List Dated
dated_moves [] = []
dated_moves (entry ∷ entries) = dated entry.version entry.moves ++ dated_moves entries

-- how many moves took effect with some entry
abbrev pub moves_in : List Entry → ℕ
moves_in book = sum_by (λ (entry : Entry). length entry.moves) book

-- the entry of a ticket
abbrev pub entry_of : Ticket → List Transaction → Entry
entry_of ticket batch =
    record {
      version = ticket.version;
      prev = ticket.prev;
      horizon = ticket.horizon;
      moves = ticket.pending;
      batch = batch;
    }
