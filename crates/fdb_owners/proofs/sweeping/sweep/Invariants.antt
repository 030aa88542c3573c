use Rattle.fdb_owners.proofs.SweepingLemmas.{IsSwept}
use Rattle.fdb_owners.proofs.sweeping.sweep.Given as goal

abbrev pub invariant-loop-look : goal.invariant-loop-look
invariant-loop-look l = IsSwept l.floor l.initial.pieces l.pieces
