use Rattle.std.proofs.Common.{◌≡◌}
use Rattle.fdb_owners.specs.Learning.{with_fresh}
use Rattle.fdb_owners.proofs.learning.put_all.Given as goal

abbrev pub invariant-loop-point : goal.invariant-loop-point
invariant-loop-point l =
    with_fresh l.breaks.entries l.point-iterator.rest.items ≡ with_fresh l.fn.breaks.entries l.fn.fresh
