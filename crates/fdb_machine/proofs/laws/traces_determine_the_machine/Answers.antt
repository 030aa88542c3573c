use Rattle.fdb_machine.proofs.headline.TraceLaws.{traces_tell}
use Rattle.fdb_machine.proofs.readings.TraceReadings.{worlds_show_what_is_told}
use Rattle.fdb_machine.proofs.laws.traces_determine_the_machine.Goals as goal

pub returns : goal.returns
returns c = record { determined = traces_tell; told = worlds_show_what_is_told }
