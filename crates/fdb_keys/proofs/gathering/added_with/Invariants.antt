use Rattle.std.proofs.Common.{◌≡◌, ◌++◌, drop}
use Rattle.fdb_keys.proofs.gathering.added_with.Given as goal

abbrev pub invariant-loop-range : goal.invariant-loop-range
invariant-loop-range l = l.all.items ++ drop l.range-index l.held ≡ l.fn.added.items ++ l.held
