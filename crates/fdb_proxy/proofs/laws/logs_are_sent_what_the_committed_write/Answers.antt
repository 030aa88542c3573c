use Rattle.fdb_proxy.proofs.MessageLemmas.{messages_hold_the_committed}
use Rattle.fdb_proxy.proofs.laws.logs_are_sent_what_the_committed_write.Goals as goal

pub returns : goal.returns
returns c = messages_hold_the_committed
