use Rattle.std.proofs.Common.{◌≡◌, take}
use Rattle.fdb_book.proofs.agreeing.agree_on_first.Given as goal

abbrev pub invariant-loop-index : goal.invariant-loop-index
invariant-loop-index g l = take l.index l.front ≡ take l.index l.other
