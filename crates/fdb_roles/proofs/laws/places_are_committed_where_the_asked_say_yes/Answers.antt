use Rattle.fdb_roles.proofs.CommittedLaws.{committed_where_the_asked_say_yes}
use Rattle.fdb_roles.proofs.laws.places_are_committed_where_the_asked_say_yes.Goals as goal

pub returns : goal.returns
returns c = committed_where_the_asked_say_yes
