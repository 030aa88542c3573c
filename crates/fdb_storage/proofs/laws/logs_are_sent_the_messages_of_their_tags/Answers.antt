use Rattle.fdb_storage.proofs.LogMessagesLemmas.{logs_are_sent_the_messages, messages_above_a_version}
use Rattle.fdb_storage.proofs.laws.logs_are_sent_the_messages_of_their_tags.Goals as goal

pub returns : goal.returns
returns c = record { sent = logs_are_sent_the_messages; above = messages_above_a_version }
