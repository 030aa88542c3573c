use Rattle.fdb_client.proofs.ProgramLemmas.{one_more_is_executed}
use Rattle.fdb_client.proofs.laws.transcripts_of_one_map_are_its_executions.Goals as goal

pub returns : goal.returns
returns c = one_more_is_executed
