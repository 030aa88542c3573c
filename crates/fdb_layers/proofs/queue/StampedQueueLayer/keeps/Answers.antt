use Rattle.fdb_layers.proofs.QueueLemmas.{queue_keeps}
use Rattle.fdb_layers.proofs.queue.StampedQueueLayer.keeps.Goals as goal

pub returns : goal.returns
returns c = queue_keeps
