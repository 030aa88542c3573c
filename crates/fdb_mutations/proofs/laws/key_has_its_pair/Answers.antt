use Rattle.fdb_mutations.proofs.PairsLemmas.{key_has_its_pair}
use Rattle.fdb_mutations.proofs.laws.key_has_its_pair.Goals as goal

pub returns : goal.returns
returns c = key_has_its_pair
