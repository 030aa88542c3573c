use Rattle.fdb_layers.proofs.QueueLemmas.{queue_starts}
use Rattle.fdb_layers.proofs.queue.StampedQueueLayer.starts.Goals as goal

pub returns : goal.returns
returns c = queue_starts
