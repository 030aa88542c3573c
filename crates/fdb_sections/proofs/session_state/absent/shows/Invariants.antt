use Rattle.std.proofs.Common.{◌≤◌, drop, length}
use Rattle.fdb_client.specs.Programs.{commit_request_of}
use Rattle.fdb_sections.specs.Absent.{IsNowhere}
use Rattle.fdb_sections.proofs.session_state.absent.shows.Given as goal

abbrev pub invariant-loop-left : goal.invariant-loop-left
invariant-loop-left g l = record {
  within : l.left ≤ length l.front;
  nowhere : IsNowhere (commit_request_of l.submitted.transaction) (drop l.left l.front);
}

abbrev pub decreases-loop-left : goal.decreases-loop-left
decreases-loop-left g l = l.left
