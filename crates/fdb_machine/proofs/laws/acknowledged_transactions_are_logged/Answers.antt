use Rattle.fdb_machine.proofs.invariant.LogLaws.{acknowledged_are_logged}
use Rattle.fdb_machine.proofs.laws.acknowledged_transactions_are_logged.Goals as goal

pub returns : goal.returns
returns c = acknowledged_are_logged
