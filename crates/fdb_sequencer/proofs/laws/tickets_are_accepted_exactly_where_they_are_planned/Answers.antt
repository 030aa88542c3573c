use Rattle.fdb_sequencer.proofs.TicketLemmas.{planned_are_accepted, accepted_are_planned}
use Rattle.fdb_sequencer.proofs.laws.tickets_are_accepted_exactly_where_they_are_planned.Goals as goal

pub returns-clause-planned : goal.returns-clause-planned
returns-clause-planned c = planned_are_accepted

pub returns-clause-accepted : goal.returns-clause-accepted
returns-clause-accepted c = accepted_are_planned
