-- The lemmas that proofs of other crates cite, and no others.
pub use Rattle.fdb_sequencer.proofs.EqualityLemmas.{dated_eq_decides}
pub use Rattle.fdb_sequencer.proofs.TicketLemmas.{accepted_is_now, passed_is_stale, pending_exist, planned_are_accepted}
