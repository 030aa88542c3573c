use Rattle.fdb_owners.proofs.BetweenLemmas.{owned_where_at_some_version}
use Rattle.fdb_owners.proofs.laws.points_are_owned_exactly_where_at_some_version.Goals as goal

pub returns : goal.returns
returns c = owned_where_at_some_version
