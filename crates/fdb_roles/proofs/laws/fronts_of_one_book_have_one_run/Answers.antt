use Rattle.fdb_roles.proofs.FrontLaws.{fronts_have_one_run}
use Rattle.fdb_roles.proofs.laws.fronts_of_one_book_have_one_run.Goals as goal

pub returns : goal.returns
returns c = fronts_have_one_run
