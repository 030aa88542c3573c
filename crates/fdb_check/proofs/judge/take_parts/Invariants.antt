use Rattle.fdb_check.specs.Judging.{HaveSaid}
use Rattle.fdb_check.proofs.judge.take_parts.Given as goal

abbrev pub invariant-loop-number : goal.invariant-loop-number
invariant-loop-number l = HaveSaid l.number l.initial.resolvers.items l.parts l.resolvers.items l.said
