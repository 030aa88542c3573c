use Rattle.fdb_mutations.proofs.PairsLemmas.{pairs_from_a_key_on}
use Rattle.fdb_mutations.proofs.laws.pairs_from_a_key_on.Goals as goal

pub returns : goal.returns
returns c = pairs_from_a_key_on
