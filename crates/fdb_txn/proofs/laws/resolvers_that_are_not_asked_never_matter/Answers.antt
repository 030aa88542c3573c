use Rattle.fdb_txn.proofs.rules.AskedLemmas.{committed_by_the_asked, old_is_asked}
use Rattle.fdb_txn.proofs.laws.resolvers_that_are_not_asked_never_matter.Goals as goal

pub returns : goal.returns
returns c = record { committed = committed_by_the_asked; old = old_is_asked }
