use Rattle.std.proofs.Common.{◌≡◌, ◌++◌, drop}
use Rattle.fdb_load.specs.Runs.{receipt_places}
use Rattle.fdb_load.proofs.run.push_receipts.Given as goal

abbrev pub invariant-loop-receipt : goal.invariant-loop-receipt
invariant-loop-receipt l =
    l.places.items ++ receipt_places (drop l.receipt-index l.placed)
    ≡ l.initial.places.items ++ receipt_places l.placed
