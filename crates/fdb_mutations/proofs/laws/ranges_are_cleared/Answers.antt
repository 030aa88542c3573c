use Rattle.fdb_mutations.proofs.Effects.{ranges_are_cleared}
use Rattle.fdb_mutations.proofs.laws.ranges_are_cleared.Goals as goal

pub returns : goal.returns
returns c = ranges_are_cleared
