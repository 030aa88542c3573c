-- The lemmas that proofs of other crates cite, and no others.
pub use Rattle.fdb_storage.proofs.LogMessagesLemmas.{logs_are_sent_the_messages, messages_above_a_version}
pub use Rattle.fdb_storage.proofs.StampedLemmas.{no_stamped_is_sent}
