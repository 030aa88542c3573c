use Rattle.fdb_play.specs.script.Lines.{left, line_number}
use Rattle.fdb_play.specs.play.Scripts.{PlaysOn, Printed, Reaches}
use Rattle.fdb_play.proofs.play.script.take_steps.Given as goal

-- the script prints what was printed, and then what the lines that are left print
abbrev pub invariant-loop : goal.invariant-loop
invariant-loop g l =
    Printed (g.W.Sink.contents l.initial.writer) (g.W.Sink.contents l.writer) (λ said.
    Reaches (left g.R.Source.remaining l.initial.lines) (left g.R.Source.remaining l.lines) said
    (PlaysOn (line_number l.initial.lines) l.initial.world.state) (PlaysOn (line_number l.lines) l.world.state))
