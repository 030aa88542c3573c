use Rattle.fdb_machine.proofs.readings.TraceReadings.{acknowledged_serialized}
use Rattle.fdb_machine.proofs.laws.acknowledged_transactions_are_serialized_at_their_spots.Goals as goal

pub returns : goal.returns
returns c = acknowledged_serialized
