use Rattle.fdb_layers.proofs.HandingLemmas.{receipts_hand_out}
use Rattle.fdb_layers.proofs.laws.receipts_hand_out.Goals as goal

pub returns : goal.returns
returns c = receipts_hand_out
