use Rattle.fdb_keys.proofs.ApartLemmas.{same_list}
use Rattle.fdb_keys.proofs.laws.apart_ranges_with_the_same_points_are_the_same.Goals as goal

pub returns : goal.returns
returns c = same_list
