use Rattle.fdb_roles.proofs.RoleLaws.{resolver_goes_on, owners_go_on, sequencer_goes_on, entries_go_on_by_tickets}
use Rattle.fdb_roles.proofs.RoleLaws.{log_goes_on, shard_goes_on}
use Rattle.fdb_roles.proofs.laws.roles_go_on_with_one_more_entry.Goals as goal

pub returns : goal.returns
returns c = record {
  resolver = resolver_goes_on;
  owners = owners_go_on;
  sequencer = sequencer_goes_on;
  entries = entries_go_on_by_tickets;
  log = log_goes_on;
  shard = shard_goes_on;
}
