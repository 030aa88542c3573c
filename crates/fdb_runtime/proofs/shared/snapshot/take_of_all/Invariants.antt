use Rattle.std.proofs.Common.{◌≡◌}
use Rattle.fdb_runtime.proofs.shared.snapshot.take_of_all.Given as goal

-- nothing but the rest has changed
abbrev pub invariant-loop-turn : goal.invariant-loop-turn
invariant-loop-turn g l = l.gathering ≡ record l.fn.gathering { rest = l.gathering.rest }
