use Rattle.fdb_txn.proofs.book.HistoryLemmas.{places_are_found_in_the_book}
use Rattle.fdb_txn.proofs.laws.places_are_found_in_the_book.Goals as goal

pub returns : goal.returns
returns c = places_are_found_in_the_book
