use Rattle.fdb_keys.proofs.ApartLemmas.{in_with_range, apart-with_range, in_with_ranges, apart-with_ranges}
use Rattle.fdb_keys.proofs.laws.set_with_a_range_has_the_points_of_both.Goals as goal

pub returns-clause-points : goal.returns-clause-points
returns-clause-points c = in_with_range

pub returns-clause-apart : goal.returns-clause-apart
returns-clause-apart c = apart-with_range

pub returns-clause-points_of_all : goal.returns-clause-points_of_all
returns-clause-points_of_all c = in_with_ranges

pub returns-clause-all_apart : goal.returns-clause-all_apart
returns-clause-all_apart c = apart-with_ranges
