use Rattle.fdb_storage.proofs.StampedLemmas.{no_stamped_is_sent}
use Rattle.fdb_storage.proofs.laws.no_shard_is_sent_what_waits_for_a_stamp.Goals as goal

pub returns : goal.returns
returns c = no_stamped_is_sent
