use Rattle.fdb_sequencer.proofs.EqualityLemmas.{ticket_eq_decides}
use Rattle.fdb_sequencer.proofs.laws.equal_tickets_are_the_same.Goals as goal

pub returns : goal.returns
returns c = ticket_eq_decides
