use Rattle.fdb_play.specs.random.Runs.{CountsSteps}
use Rattle.fdb_play.proofs.random.take_all.Given as goal

-- the steps that are done are counted
abbrev pub invariant-loop-done : goal.invariant-loop-done
invariant-loop-done g l = CountsSteps l.done l.initial.world.state l.world.state l.tally
