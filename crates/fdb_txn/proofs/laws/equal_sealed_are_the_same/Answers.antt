use Rattle.fdb_txn.proofs.EqualityLemmas.{sealed_eq_decides}
use Rattle.fdb_txn.proofs.laws.equal_sealed_are_the_same.Goals as goal

pub returns : goal.returns
returns c = sealed_eq_decides
