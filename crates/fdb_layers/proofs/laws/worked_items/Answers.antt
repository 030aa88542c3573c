use Rattle.fdb_layers.proofs.QueueBooksExamplesLemmas.{worked_items}
use Rattle.fdb_layers.proofs.laws.worked_items.Goals as goal

pub returns : goal.returns
returns c = worked_items
