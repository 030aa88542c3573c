-- The lemmas that proofs of other crates cite, and no others.
pub use Rattle.fdb_proxy.proofs.ConflictLemmas.{conflicts_are_joined_by_the_rule}
pub use Rattle.fdb_proxy.proofs.DecidingLemmas.{count-outcomes}
pub use Rattle.fdb_proxy.proofs.FoundLemmas.{batches_are_found_by_the_rule, unasked_find_nothing}
pub use Rattle.fdb_proxy.proofs.MessageLemmas.{body-committed, commit-at, messages_hold_the_committed}
pub use Rattle.fdb_proxy.proofs.MessageLemmas.{written-at}
pub use Rattle.fdb_proxy.proofs.OutcomeLemmas.{entries_are_decided_by_the_rule}
pub use Rattle.fdb_proxy.proofs.TicketLemmas.{may-learn}
pub use Rattle.fdb_proxy.proofs.VerdictLemmas.{entries_are_judged_by_the_rule, items_where_asked}
