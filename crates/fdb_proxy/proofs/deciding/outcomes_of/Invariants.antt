use Rattle.std.proofs.Common.{◌≡◌, take}
use Rattle.fdb_proxy.specs.Deciding.{outcomes_by}
use Rattle.fdb_proxy.proofs.deciding.outcomes_of.Given as goal

abbrev pub invariant-loop-of : goal.invariant-loop-of
invariant-loop-of l = l.outcomes ≡ outcomes_by l.version (take l.of-index l.verdicts) l.count
