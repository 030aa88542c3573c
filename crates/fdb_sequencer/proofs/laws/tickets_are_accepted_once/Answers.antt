use Rattle.fdb_sequencer.proofs.TicketLemmas.{accepted_once}
use Rattle.fdb_sequencer.proofs.laws.tickets_are_accepted_once.Goals as goal

pub returns : goal.returns
returns c = accepted_once
