use Rattle.fdb_interval.proofs.NewerWalkLemmas.{IsWalked}
use Rattle.fdb_interval.proofs.newer.is_newer_by_walk.Given as goal

abbrev pub invariant-loop-point : goal.invariant-loop-point
invariant-loop-point l = IsWalked l.version l.range l.breaks.entries l.point-iterator l.at_begin l.is_inside
