use Rattle.std.proofs.Common.{◌≡◌, drop, nat_lt}
use Rattle.std.specs.List.{list_all}
use Rattle.fdb_txn.specs.book.Transactions.{Transaction}
use Rattle.fdb_book.proofs.appending.reads_below.Given as goal

abbrev pub invariant-loop-sealed : goal.invariant-loop-sealed
invariant-loop-sealed l =
    list_all (λ (t : Transaction). nat_lt t.read l.version) l.batch
    ≡ list_all (λ (t : Transaction). nat_lt t.read l.version) (drop l.sealed-index l.batch)
