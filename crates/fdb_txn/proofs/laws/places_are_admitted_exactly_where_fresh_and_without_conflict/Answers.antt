use Rattle.fdb_txn.proofs.rules.AdmissionLemmas.{admits_without_conflict}
use Rattle.fdb_txn.proofs.laws.places_are_admitted_exactly_where_fresh_and_without_conflict.Goals as goal

pub returns : goal.returns
returns c = admits_without_conflict
