use Rattle.fdb_machine.proofs.invariant.SessionLaws.{sessions_are_where_their_states_say, asks_are_refused}
use Rattle.fdb_machine.proofs.laws.sessions_are_where_their_states_say.Goals as goal

pub returns : goal.returns
returns c = record { places = sessions_are_where_their_states_say; refused = asks_are_refused }
