use Rattle.fdb_mutations.proofs.PairsLemmas.{pairs_of_parts}
use Rattle.fdb_mutations.proofs.laws.range_has_the_pairs_of_its_parts.Goals as goal

pub returns : goal.returns
returns c = pairs_of_parts
