use Rattle.std.proofs.Common.{◌≡◌, take}
use Rattle.fdb_book.proofs.front.Front.entries.Given as goal

abbrev pub invariant-loop-index : goal.invariant-loop-index
invariant-loop-index g l = l.entries.items ≡ take l.index l.self
