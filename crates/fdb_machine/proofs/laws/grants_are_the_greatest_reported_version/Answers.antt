use Rattle.fdb_machine.proofs.headline.PromiseLaws.{grants_committed}
use Rattle.fdb_machine.proofs.readings.TraceReadings.{committed_is_greatest_reported}
use Rattle.fdb_machine.proofs.laws.grants_are_the_greatest_reported_version.Goals as goal

pub returns : goal.returns
returns c = record { granted = grants_committed; greatest = committed_is_greatest_reported }
