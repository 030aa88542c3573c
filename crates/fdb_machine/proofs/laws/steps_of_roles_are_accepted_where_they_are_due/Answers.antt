use Rattle.fdb_machine.proofs.readings.DueSteps.{what_is_due_is_accepted, decisions_wait}
use Rattle.fdb_machine.proofs.laws.steps_of_roles_are_accepted_where_they_are_due.Goals as goal

pub returns : goal.returns
returns c = record { due = what_is_due_is_accepted; waits = decisions_wait }
