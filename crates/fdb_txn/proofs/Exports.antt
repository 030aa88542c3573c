-- The lemmas that proofs of other crates cite, and no others.
pub use Rattle.fdb_txn.proofs.CloneLemmas.{same_entry, same_sealed, same_set}
pub use Rattle.fdb_txn.proofs.EqualityLemmas.{entry_eq_decides, move_eq_decides, sealed_eq_decides, txn_id_eq_decides}
pub use Rattle.fdb_txn.proofs.NumberMaps.{at_number, get-pairs, one_put, same_maps}
pub use Rattle.fdb_txn.proofs.VersionsLemmas.{count-alike, count-around, count-steady, one_if}
pub use Rattle.fdb_txn.proofs.book.HistoryLemmas.{AtMost, add_places-newer, books_are_entries}
pub use Rattle.fdb_txn.proofs.book.HistoryLemmas.{earlier_maps_stay, entries_go_on, horizons_part}
pub use Rattle.fdb_txn.proofs.book.HistoryLemmas.{places_are_found_in_the_book}
pub use Rattle.fdb_txn.proofs.book.HistoryLemmas.{places_are_history, seen_of-push, up_to-above, up_to-all}
pub use Rattle.fdb_txn.proofs.rules.AskedLemmas.{committed_by_the_asked, old_is_asked, owner-exists, point_of-set}
pub use Rattle.fdb_txn.proofs.rules.AskedLemmas.{points_from-in_set}
pub use Rattle.fdb_txn.proofs.rules.ConflictLemmas.{committed_without_conflict, conflicts_are_found, conflicts_are_read}
pub use Rattle.fdb_txn.proofs.rules.ConflictLemmas.{conflicts_at_some_earlier, finder_is_asked, found_is_in_conflict}
pub use Rattle.fdb_txn.proofs.rules.ConflictLemmas.{refused_by_conflict, state_finds_conflicts}
pub use Rattle.fdb_txn.proofs.rules.CornersLemmas.{alike-first_owner, asked_at_some_point, nearest}
pub use Rattle.fdb_txn.proofs.rules.CornersLemmas.{owned_at_some_version, some_of-any}
pub use Rattle.fdb_txn.proofs.rules.MessagesLemmas.{at_most-more, entries-split, get-effects, meets_at_some_point}
pub use Rattle.fdb_txn.proofs.rules.MessagesLemmas.{messages_go_on, mutations-if, serial_map-add_places, shards_go_on}
pub use Rattle.fdb_txn.proofs.rules.MessagesLemmas.{messages_are_stamped, shards_hold_the_run}
pub use Rattle.fdb_txn.proofs.rules.ResolverLemmas.{state_decides, state_forgets, state_takes_place}
pub use Rattle.fdb_txn.proofs.rules.SerialMapLemmas.{reads_stand}
pub use Rattle.fdb_txn.proofs.rules.SplitsLemmas.{pieces_part_the_keys, range-made}
