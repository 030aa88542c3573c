use Rattle.std.proofs.Common.{◌≡◌, drop}
use Rattle.fdb_txn.specs.book.Once.{times_with_id}
use Rattle.fdb_book.proofs.repeated.has_id.Given as goal

abbrev pub invariant-loop-sealed : goal.invariant-loop-sealed
invariant-loop-sealed l = times_with_id l.id l.batch ≡ times_with_id l.id (drop l.sealed-index l.batch)
