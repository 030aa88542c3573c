use Rattle.fdb_mutations.proofs.Effects.{at_every_point}
use Rattle.fdb_mutations.proofs.laws.effect_at_every_point.Goals as goal

pub returns : goal.returns
returns c = at_every_point
