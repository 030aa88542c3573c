use Rattle.fdb_layers.proofs.CountersLemmas.{counters_keep}
use Rattle.fdb_layers.proofs.counters.EqualCountersLayer.keeps.Goals as goal

pub returns : goal.returns
returns c = counters_keep
