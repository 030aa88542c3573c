use Rattle.fdb_keys.proofs.EqualityLemmas.{range_set_eq_decides}
use Rattle.fdb_keys.proofs.laws.equal_range_sets_are_the_same.Goals as goal

pub returns : goal.returns
returns c = range_set_eq_decides
