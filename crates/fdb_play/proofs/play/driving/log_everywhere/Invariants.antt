use Rattle.fdb_play.specs.play.Driving.{AreAccepted, for_each, log_steps}
use Rattle.fdb_play.proofs.play.driving.log_everywhere.Given as goal

abbrev pub invariant-loop-log : goal.invariant-loop-log
invariant-loop-log l = AreAccepted l.initial.world.state (for_each (log_steps l.flight.entry) l.log) l.world.state
