-- The lemmas that proofs of other crates cite, and no others.
pub use Rattle.fdb_resolver.proofs.BookLemmas.{found_by_the_book, places_keep_state, verdicts_are_by_the_book}
