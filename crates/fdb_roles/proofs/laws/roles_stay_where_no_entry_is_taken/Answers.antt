use Rattle.fdb_roles.proofs.RoleStartLaws.{sequencer_reports, sequencer_moves, sequencer_windows}
use Rattle.fdb_roles.proofs.RoleStartLaws.{log_pops, shard_forgets}
use Rattle.fdb_roles.proofs.laws.roles_stay_where_no_entry_is_taken.Goals as goal

pub returns : goal.returns
returns c = record {
  reports = sequencer_reports;
  moves = sequencer_moves;
  windows = sequencer_windows;
  log = log_pops;
  shard = shard_forgets;
}
