use Rattle.fdb_txn.proofs.rules.ConflictLemmas.{committed_without_conflict, refused_by_conflict}
use Rattle.fdb_txn.proofs.laws.fresh_places_are_committed_exactly_where_their_conflict_set_is_empty.Goals as goal

pub returns : goal.returns
returns c = record { committed = committed_without_conflict; refused = refused_by_conflict }
