use Rattle.std.specs.Slice.Iter.{iter_rest}
use Rattle.fdb_client.proofs.ConflictLemmas.{PutDown}
use Rattle.fdb_client.proofs.conflict_set.push_all.Given as goal

abbrev pub invariant-loop-range : goal.invariant-loop-range
invariant-loop-range l = PutDown l.initial.list l.ranges l.list (iter_rest l.range-iterator)
