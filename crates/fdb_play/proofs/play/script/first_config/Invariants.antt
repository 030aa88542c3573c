use Rattle.std.proofs.Common.{[]}
use Rattle.fdb_play.specs.script.Lines.{left, line_number}
use Rattle.fdb_play.specs.play.Scripts.{Plays, Reaches}
use Rattle.fdb_play.proofs.play.script.first_config.Given as goal

-- what the lines that are left print is what the script prints
abbrev pub invariant-loop : goal.invariant-loop
invariant-loop g l =
    Reaches (left g.R.Source.remaining l.initial.lines) (left g.R.Source.remaining l.lines) []
    (Plays (line_number l.initial.lines)) (Plays (line_number l.lines))
