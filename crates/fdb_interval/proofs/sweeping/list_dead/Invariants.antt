use Rattle.fdb_interval.proofs.SweepLemmas.{IsWalking}
use Rattle.fdb_interval.proofs.sweeping.list_dead.Given as goal

abbrev pub invariant-loop-point : goal.invariant-loop-point
invariant-loop-point l = IsWalking l.floor l.from l.breaks.entries l.point-iterator l.dead.items l.before
