use Rattle.fdb_roles.proofs.RoleLaws.{shard_goes_on_by_messages, log_gives_messages, shard_goes_on_by_its_log}
use Rattle.fdb_roles.proofs.laws.shards_go_on_by_what_their_logs_give.Goals as goal

pub returns : goal.returns
returns c = record {
  messages = shard_goes_on_by_messages;
  gives = log_gives_messages;
  log = shard_goes_on_by_its_log;
}
