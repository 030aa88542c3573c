-- The lemmas that proofs of other crates cite, and no others.
pub use Rattle.fdb_sections.proofs.ClientLemmas.{settled}
