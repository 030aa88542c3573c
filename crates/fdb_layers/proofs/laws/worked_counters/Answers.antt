use Rattle.fdb_layers.proofs.CountersExamplesLemmas.{one_is_addition, lone_additions_fail}
use Rattle.fdb_layers.proofs.laws.worked_counters.Goals as goal

pub returns : goal.returns
returns c = record { adds = one_is_addition; lone = lone_additions_fail }
