use Rattle.fdb_machine.proofs.headline.FailingLaws.{answers_are_the_machines, failed_roles_answer}
use Rattle.fdb_machine.proofs.headline.FailingLaws.{refused_steps_leave_the_machine, working_roles_answer}
use Rattle.fdb_machine.proofs.laws.steps_are_the_machines_where_their_roles_work.Goals as goal

pub returns : goal.returns
returns c = record {
  working = working_roles_answer;
  failed = failed_roles_answer;
  answers = answers_are_the_machines;
  refused = refused_steps_leave_the_machine;
}
