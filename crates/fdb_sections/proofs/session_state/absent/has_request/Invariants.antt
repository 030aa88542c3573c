use Rattle.std.proofs.Common.{take}
use Rattle.fdb_client.specs.Programs.{commit_request_of}
use Rattle.fdb_sections.specs.Absent.{IsNotAmong}
use Rattle.fdb_sections.proofs.session_state.absent.has_request.Given as goal

abbrev pub invariant-loop-sealed : goal.invariant-loop-sealed
invariant-loop-sealed l = IsNotAmong (commit_request_of l.submitted.transaction) (take l.sealed-index l.batch)
