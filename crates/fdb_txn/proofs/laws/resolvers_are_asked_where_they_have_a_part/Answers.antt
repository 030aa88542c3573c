use Rattle.fdb_txn.proofs.rules.CornersLemmas.{asked_at_some_point}
use Rattle.fdb_txn.proofs.laws.resolvers_are_asked_where_they_have_a_part.Goals as goal

pub returns : goal.returns
returns c = asked_at_some_point
