use Rattle.fdb_mutations.proofs.Effects.{blind_is_blind}
use Rattle.fdb_mutations.proofs.laws.blind_is_blind.Goals as goal

pub returns : goal.returns
returns c = blind_is_blind
