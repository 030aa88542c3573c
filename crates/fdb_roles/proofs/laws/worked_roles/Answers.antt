use Rattle.fdb_roles.proofs.RoleExamplesLemmas.{other_sequencers_are_elsewhere, other_logs_are_elsewhere}
use Rattle.fdb_roles.proofs.RoleExamplesLemmas.{other_shards_are_elsewhere}
use Rattle.fdb_roles.proofs.laws.worked_roles.Goals as goal

pub returns : goal.returns
returns c = record {
  sequencers = other_sequencers_are_elsewhere;
  logs = other_logs_are_elsewhere;
  shards = other_shards_are_elsewhere;
}
