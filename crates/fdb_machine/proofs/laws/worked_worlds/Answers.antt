use Rattle.fdb_machine.proofs.headline.KeepingExamplesLemmas.{failures_are_shown, other_logs_are_in_no_world}
use Rattle.fdb_machine.proofs.headline.KeepingExamplesLemmas.{other_messages_are_in_no_world}
use Rattle.fdb_machine.proofs.headline.KeepingExamplesLemmas.{other_resolvers_are_in_no_world}
use Rattle.fdb_machine.proofs.headline.KeepingExamplesLemmas.{other_sequencers_are_in_no_world}
use Rattle.fdb_machine.proofs.headline.KeepingExamplesLemmas.{other_shards_are_in_no_world}
use Rattle.fdb_machine.proofs.laws.worked_worlds.Goals as goal

pub returns : goal.returns
returns c = record {
  failed = failures_are_shown;
  sequencers = other_sequencers_are_in_no_world;
  resolvers = other_resolvers_are_in_no_world;
  messages = other_messages_are_in_no_world;
  logs = other_logs_are_in_no_world;
  shards = other_shards_are_in_no_world;
}
