use Rattle.fdb_txn.proofs.EqualityLemmas.{batch_eq_decides}
use Rattle.fdb_txn.proofs.laws.equal_batches_are_the_same.Goals as goal

pub returns : goal.returns
returns c = batch_eq_decides
