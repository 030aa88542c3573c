use Rattle.fdb_roles.proofs.CommittedLaws.{reads_of_the_committed_stand}
use Rattle.fdb_roles.proofs.laws.reads_of_committed_transactions_are_those_right_before_their_places.Goals as goal

pub returns : goal.returns
returns c = reads_of_the_committed_stand
