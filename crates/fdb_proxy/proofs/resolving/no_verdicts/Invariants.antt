use Rattle.std.proofs.Common.{◌≡◌, None, replicate}
use Rattle.fdb_proxy.proofs.resolving.no_verdicts.Given as goal

abbrev pub invariant-loop-resolver : goal.invariant-loop-resolver
invariant-loop-resolver l = l.verdicts ≡ replicate l._resolver None
