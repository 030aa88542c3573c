use Rattle.fdb_txn.proofs.rules.SerialMapLemmas.{reads_stand}
use Rattle.fdb_txn.proofs.laws.reads_of_committed_transactions_stand.Goals as goal

pub returns : goal.returns
returns c = reads_stand
