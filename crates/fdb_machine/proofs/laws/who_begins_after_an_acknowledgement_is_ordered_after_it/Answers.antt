use Rattle.fdb_machine.proofs.readings.TraceReadings.{real_time}
use Rattle.fdb_machine.proofs.laws.who_begins_after_an_acknowledgement_is_ordered_after_it.Goals as goal

pub returns : goal.returns
returns c = real_time
