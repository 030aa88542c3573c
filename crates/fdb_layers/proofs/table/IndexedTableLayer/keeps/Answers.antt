use Rattle.fdb_layers.proofs.TableLemmas.{table_keeps}
use Rattle.fdb_layers.proofs.table.IndexedTableLayer.keeps.Goals as goal

pub returns : goal.returns
returns c = table_keeps
