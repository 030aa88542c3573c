use Rattle.fdb_layers.proofs.QueueExamplesLemmas.{early_is_popped, job_is_push, late_is_not_oldest}
use Rattle.fdb_layers.proofs.QueueExamplesLemmas.{pushes_have_own_keys, unstamped_pushes_fail}
use Rattle.fdb_layers.proofs.laws.worked_queue.Goals as goal

pub returns : goal.returns
returns c = record {
  pushes = job_is_push;
  pops = early_is_popped;
  later = late_is_not_oldest;
  apart = pushes_have_own_keys;
  bare = unstamped_pushes_fail;
}
