-- The lemmas that proofs of other crates cite, and no others.
pub use Rattle.fdb_log.proofs.AboveLemmas.{above-above, above-drops, above-higher, above-keeps}
pub use Rattle.fdb_log.proofs.ToldLemmas.{read-at, set-other, set-same}
