use Rattle.std.proofs.Common.{◌≡◌, take}
use Rattle.fdb_txn.proofs.splits.copies.Given as goal

abbrev pub invariant-loop-key : goal.invariant-loop-key
invariant-loop-key l = l.copies ≡ take l.key-index l.keys
