use Rattle.fdb_txn.proofs.book.HistoryLemmas.{places_are_history}
use Rattle.fdb_txn.proofs.laws.places_of_a_book_are_a_history.Goals as goal

pub returns : goal.returns
returns c = places_are_history
