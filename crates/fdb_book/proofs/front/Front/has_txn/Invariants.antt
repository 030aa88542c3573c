use Rattle.std.proofs.Common.{◌≡◌, drop}
use Rattle.fdb_txn.specs.book.Once.{times_in_book}
use Rattle.fdb_book.proofs.front.Front.has_txn.Given as goal

abbrev pub invariant-loop-index : goal.invariant-loop-index
invariant-loop-index g l = times_in_book l.id l.self ≡ times_in_book l.id (drop l.index l.self)
