use Rattle.fdb_machine.proofs.headline.FailingLaws.{only_the_taker_fails}
use Rattle.fdb_machine.proofs.laws.the_role_that_takes_the_step_alone_may_fail.Goals as goal

pub returns : goal.returns
returns c = only_the_taker_fails
