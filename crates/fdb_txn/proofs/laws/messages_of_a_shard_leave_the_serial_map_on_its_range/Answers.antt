use Rattle.fdb_txn.proofs.rules.MessagesLemmas.{meets_at_some_point, messages_are_for_the_range, shards_hold_the_run}
use Rattle.fdb_txn.proofs.rules.MessagesLemmas.{messages_go_on, shards_go_on, messages_are_stamped}
use Rattle.fdb_txn.proofs.laws.messages_of_a_shard_leave_the_serial_map_on_its_range.Goals as goal

pub returns : goal.returns
returns c = record {
  meets = meets_at_some_point;
  for_range = messages_are_for_the_range;
  holds = shards_hold_the_run;
  go_on = messages_go_on;
  shards_go_on = shards_go_on;
  stamped = messages_are_stamped;
}
