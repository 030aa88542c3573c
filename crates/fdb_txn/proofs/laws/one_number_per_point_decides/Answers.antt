use Rattle.fdb_txn.proofs.rules.ResolverLemmas.{last_versions_decide}
use Rattle.fdb_txn.proofs.laws.one_number_per_point_decides.Goals as goal

pub returns : goal.returns
returns c = last_versions_decide
