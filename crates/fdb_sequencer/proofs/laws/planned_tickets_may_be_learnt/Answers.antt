use Rattle.fdb_sequencer.proofs.HandingLemmas.{planned_may_be_learnt}
use Rattle.fdb_sequencer.proofs.laws.planned_tickets_may_be_learnt.Goals as goal

pub returns : goal.returns
returns c = planned_may_be_learnt
