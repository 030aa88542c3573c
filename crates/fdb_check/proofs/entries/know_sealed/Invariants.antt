use Rattle.std.proofs.Common.{drop}
use Rattle.std.specs.List.{AllByRecursion}
use Rattle.fdb_txn.specs.book.History.{IsSealed}
use Rattle.fdb_check.proofs.entries.know_sealed.Given as goal

abbrev pub invariant-loop-entry : goal.invariant-loop-entry
invariant-loop-entry l =
    AllByRecursion IsSealed (drop l.entry-index l.book) → AllByRecursion IsSealed l.book
