use Rattle.fdb_play.proofs.lemmas.Tallies.{count_steps}
use Rattle.fdb_play.proofs.laws.a_run_counts_each_step_once.Goals as goal

pub returns : goal.returns
returns c = λ steps old new tally below counts. (count_steps steps old new tally below counts).1
