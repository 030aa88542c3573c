use Rattle.fdb_mutations.proofs.PairsLemmas.{same_values, no_values}
use Rattle.fdb_mutations.proofs.laws.values_decide_the_pairs.Goals as goal

pub returns-clause-same : goal.returns-clause-same
returns-clause-same c = same_values

pub returns-clause-none : goal.returns-clause-none
returns-clause-none c = no_values
