use Rattle.fdb_layers.proofs.CountersLemmas.{counters_start}
use Rattle.fdb_layers.proofs.counters.EqualCountersLayer.starts.Goals as goal

pub returns : goal.returns
returns c = counters_start
