use Rattle.fdb_keys.proofs.PrefixLemmas.{in_range-prefix}
use Rattle.fdb_keys.proofs.laws.prefix_range_has_the_keys_that_begin_with_it.Goals as goal

pub returns : goal.returns
returns c = in_range-prefix
