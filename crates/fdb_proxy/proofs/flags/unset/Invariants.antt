use Rattle.std.proofs.Common.{◌≡◌, false, replicate}
use Rattle.fdb_proxy.proofs.flags.unset.Given as goal

abbrev pub invariant-loop-number : goal.invariant-loop-number
invariant-loop-number l = l.flags ≡ replicate l._number false
