use Rattle.fdb_txn.proofs.rules.ResolverLemmas.{one_place_more}
use Rattle.fdb_txn.proofs.laws.one_place_more_is_one_step.Goals as goal

pub returns : goal.returns
returns c = one_place_more
