use Rattle.fdb_roles.proofs.RoleStartLaws.{resolver_starts, sequencer_starts, log_starts, shard_starts}
use Rattle.fdb_roles.proofs.laws.new_roles_are_at_no_entry.Goals as goal

pub returns : goal.returns
returns c = record {
  resolver = resolver_starts;
  sequencer = sequencer_starts;
  log = log_starts;
  shard = shard_starts;
}
