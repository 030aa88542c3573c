-- The lemmas that proofs of other crates cite, and no others.
pub use Rattle.fdb_owners.proofs.BookLemmas.{learning_goes_on, new_goes_on, owned_by_the_book}
pub use Rattle.fdb_owners.proofs.SplitLemmas.{either_same}
pub use Rattle.fdb_owners.proofs.SpreadLemmas.{parts-owned, parts-held}
