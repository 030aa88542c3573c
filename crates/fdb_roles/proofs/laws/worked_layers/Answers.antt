use Rattle.fdb_roles.proofs.LayerExamplesLemmas.{worked_layers}
use Rattle.fdb_roles.proofs.laws.worked_layers.Goals as goal

pub returns : goal.returns
returns c = worked_layers
