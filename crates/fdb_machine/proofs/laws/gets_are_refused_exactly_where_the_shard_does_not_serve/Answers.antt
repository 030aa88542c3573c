use Rattle.fdb_machine.proofs.headline.PromiseLaws.{gets_refused, unreadable_keys_ask_no_shard}
use Rattle.fdb_machine.proofs.laws.gets_are_refused_exactly_where_the_shard_does_not_serve.Goals as goal

pub returns : goal.returns
returns c = record { refused = gets_refused; unreadable = unreadable_keys_ask_no_shard }
