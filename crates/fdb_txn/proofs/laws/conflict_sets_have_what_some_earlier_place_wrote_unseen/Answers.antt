use Rattle.fdb_txn.proofs.rules.ConflictLemmas.{conflicts_at_some_earlier, conflicts_are_read}
use Rattle.fdb_txn.proofs.laws.conflict_sets_have_what_some_earlier_place_wrote_unseen.Goals as goal

pub returns : goal.returns
returns c = record { earlier = conflicts_at_some_earlier; read = conflicts_are_read }
