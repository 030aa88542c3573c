use Rattle.fdb_client.proofs.WriteSetLemmas.{commit_requests_are_whole}
use Rattle.fdb_client.proofs.laws.commit_requests_have_what_their_programs_read_and_write.Goals as goal

pub returns : goal.returns
returns c = commit_requests_are_whole
