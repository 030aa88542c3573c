use Rattle.std.proofs.Common.{drop}
use Rattle.std.specs.List.{AllByRecursion}
use Rattle.fdb_txn.specs.book.Transactions.{NamesWrites}
use Rattle.fdb_txn.proofs.batch.know_named.Given as goal

abbrev pub invariant-loop-sealed : goal.invariant-loop-sealed
invariant-loop-sealed l =
    AllByRecursion NamesWrites (drop l.sealed-index l.places) → AllByRecursion NamesWrites l.places
