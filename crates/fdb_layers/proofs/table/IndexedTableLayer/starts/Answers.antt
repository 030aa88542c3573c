use Rattle.fdb_layers.proofs.TableLemmas.{table_starts}
use Rattle.fdb_layers.proofs.table.IndexedTableLayer.starts.Goals as goal

pub returns : goal.returns
returns c = table_starts
