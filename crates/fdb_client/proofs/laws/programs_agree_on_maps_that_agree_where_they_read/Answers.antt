use Rattle.fdb_client.proofs.ProgramsAgree.{programs_agree}
use Rattle.fdb_client.proofs.laws.programs_agree_on_maps_that_agree_where_they_read.Goals as goal

pub returns : goal.returns
returns c = programs_agree
