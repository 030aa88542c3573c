use Rattle.std.proofs.Common.{◌<◌, sym, subst, List}
use Rattle.std.specs.List.{AllByRecursion}
use Rattle.fdb_txn.specs.book.Transactions.{Transaction}
use Rattle.fdb_role_tests.proofs.proxies.committing.seal_four.Goals as goal

pub returns-clause-batch : goal.returns-clause-batch
returns-clause-batch c =
    subst (λ (batch : List Transaction). AllByRecursion (λ (t : Transaction). t.read < 100) batch)
    (sym c.in_ok-seal_one.ensures.batch) (c.in_ok-submit.ensures.early c.requires)
