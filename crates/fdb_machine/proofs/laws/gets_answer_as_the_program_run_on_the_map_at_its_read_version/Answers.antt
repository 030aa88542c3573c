use Rattle.fdb_machine.proofs.headline.PromiseLaws.{gets_from_the_run, range_reads_from_the_run}
use Rattle.fdb_machine.proofs.laws.gets_answer_as_the_program_run_on_the_map_at_its_read_version.Goals as goal

pub returns : goal.returns
returns c = record { keys = gets_from_the_run; ranges = range_reads_from_the_run }
