use Rattle.fdb_roles.proofs.ReplayLaws.{replays_tell_the_run, replays_are_not_refused}
use Rattle.fdb_roles.proofs.laws.replays_of_unpopped_peeks_tell_the_run.Goals as goal

pub returns : goal.returns
returns c = record { told = replays_tell_the_run; taken = replays_are_not_refused }
