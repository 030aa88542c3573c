use Rattle.fdb_layers.proofs.HandingLemmas.{worked_handing}
use Rattle.fdb_layers.proofs.laws.worked_handing.Goals as goal

pub returns : goal.returns
returns c = worked_handing
