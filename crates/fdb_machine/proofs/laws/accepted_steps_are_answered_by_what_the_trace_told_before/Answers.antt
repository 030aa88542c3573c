use Rattle.fdb_machine.proofs.readings.AnswersByTrace.{answered_by_trace}
use Rattle.fdb_machine.proofs.laws.accepted_steps_are_answered_by_what_the_trace_told_before.Goals as goal

pub returns : goal.returns
returns c = answered_by_trace
