use Rattle.std.proofs.Common.{◌≡◌, []}
use Rattle.fdb_proxy.specs.Deciding.{outcomes_by}
use Rattle.fdb_proxy.proofs.deciding.all_committed.Given as goal

abbrev pub invariant-loop-place : goal.invariant-loop-place
invariant-loop-place l = l.outcomes ≡ outcomes_by l.version [] l.place
