use Rattle.std.proofs.Common.{refl}
use Rattle.fdb_check.proofs.RunningLemmas.{comes-in}
use Rattle.fdb_check.proofs.run.new_run.Goals as goal

pub returns : goal.returns
returns c splits book judged = comes-in splits book 0 _ refl refl judged c.new.ensures
