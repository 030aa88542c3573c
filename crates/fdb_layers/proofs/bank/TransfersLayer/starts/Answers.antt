use Rattle.fdb_layers.proofs.BankLemmas.{bank_starts}
use Rattle.fdb_layers.proofs.bank.TransfersLayer.starts.Goals as goal

pub returns : goal.returns
returns c = bank_starts
