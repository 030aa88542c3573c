use Rattle.fdb_txn.proofs.book.HistoryLemmas.{books_are_entries}
use Rattle.fdb_txn.proofs.laws.books_are_entries.Goals as goal

pub returns : goal.returns
returns c = books_are_entries
