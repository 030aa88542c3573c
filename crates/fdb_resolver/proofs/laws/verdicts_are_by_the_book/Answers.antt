use Rattle.fdb_resolver.proofs.BookLemmas.{verdicts_are_by_the_book, places_keep_state, found_by_the_book}
use Rattle.fdb_resolver.proofs.laws.verdicts_are_by_the_book.Goals as goal

pub returns : goal.returns
returns c = record {
  verdicts = verdicts_are_by_the_book;
  states = places_keep_state;
  found = found_by_the_book;
}
