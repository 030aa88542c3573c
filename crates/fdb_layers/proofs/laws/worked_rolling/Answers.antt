use Rattle.fdb_layers.proofs.RollingExamplesLemmas.{both-arrive, early-is-not-there, lost-is-not-there}
use Rattle.fdb_layers.proofs.laws.worked_rolling.Goals as goal

pub returns : goal.returns
returns c = record { arrive = both-arrive; early = early-is-not-there; lost = lost-is-not-there }
