use Rattle.fdb_layers.proofs.BankLemmas.{bank_keeps}
use Rattle.fdb_layers.proofs.bank.TransfersLayer.keeps.Goals as goal

pub returns : goal.returns
returns c = bank_keeps
