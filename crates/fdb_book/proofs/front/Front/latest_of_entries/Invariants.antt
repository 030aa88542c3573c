use Rattle.std.proofs.Common.{take}
use Rattle.fdb_book.specs.Ids.{Covers}
use Rattle.fdb_book.proofs.front.Front.latest_of_entries.Given as goal

abbrev pub invariant-loop-index : goal.invariant-loop-index
invariant-loop-index g l = Covers l.latest (take l.index l.self)
