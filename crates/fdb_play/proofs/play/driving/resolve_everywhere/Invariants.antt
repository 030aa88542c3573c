use Rattle.fdb_play.specs.play.Driving.{AreAccepted, for_each, resolver_steps}
use Rattle.fdb_play.proofs.play.driving.resolve_everywhere.Given as goal

abbrev pub invariant-loop-resolver : goal.invariant-loop-resolver
invariant-loop-resolver l = AreAccepted l.initial.world.state (for_each (resolver_steps l.flight.entry) l.resolver)
    l.world.state
