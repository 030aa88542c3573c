use Rattle.std.specs.Slice.Iter.{iter_rest}
use Rattle.fdb_client.proofs.UndecidedLemmas.{FoundAmong}
use Rattle.fdb_client.proofs.own_writes.OwnWrites.undecided_among.Given as goal

abbrev pub invariant-loop-range : goal.invariant-loop-range
invariant-loop-range l = FoundAmong l.self l.ranges l.parts.items (iter_rest l.range-iterator)
