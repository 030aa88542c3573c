use Rattle.fdb_txn.proofs.EqualityLemmas.{entry_eq_decides}
use Rattle.fdb_txn.proofs.laws.equal_entries_are_the_same.Goals as goal

pub returns : goal.returns
returns c = entry_eq_decides
