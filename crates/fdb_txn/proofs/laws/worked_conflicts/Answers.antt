use Rattle.fdb_txn.proofs.rules.ExamplesLemmas.{conflicts_compute}
use Rattle.fdb_txn.proofs.laws.worked_conflicts.Goals as goal

pub returns : goal.returns
returns c = conflicts_compute
