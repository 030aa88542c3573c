-- The lemmas that proofs of other crates cite, and no others.
pub use Rattle.fdb_book.proofs.FactLemmas.{last-at, last-horizon, last-version}
