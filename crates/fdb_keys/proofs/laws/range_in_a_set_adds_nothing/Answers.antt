use Rattle.fdb_keys.proofs.ApartLemmas.{with_range-held}
use Rattle.fdb_keys.proofs.laws.range_in_a_set_adds_nothing.Goals as goal

pub returns : goal.returns
returns c = with_range-held
