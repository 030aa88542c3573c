use Rattle.fdb_layers.proofs.BankExamplesLemmas.{gifts_fail, no_more_is_refused, snapshot_payments_fail}
use Rattle.fdb_layers.proofs.BankExamplesLemmas.{thirty_is_payment}
use Rattle.fdb_layers.proofs.laws.worked_bank.Goals as goal

pub returns : goal.returns
returns c = record {
  pays = thirty_is_payment;
  snapshots = snapshot_payments_fail;
  gifts = gifts_fail;
  refuses = no_more_is_refused;
}
