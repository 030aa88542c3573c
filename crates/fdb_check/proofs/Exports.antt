-- The lemmas that proofs of other crates cite, and no others.
pub use Rattle.fdb_check.proofs.RunningLemmas.{IsUntil, last-next, map-here, until-end, until-next}
