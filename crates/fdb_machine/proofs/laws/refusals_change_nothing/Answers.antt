use Rattle.fdb_machine.proofs.headline.PromiseLaws.{refusals_change_nothing}
use Rattle.fdb_machine.proofs.laws.refusals_change_nothing.Goals as goal

pub returns : goal.returns
returns c = refusals_change_nothing
