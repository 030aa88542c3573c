use Rattle.std.proofs.Common.{◌≡◌, drop}
use Rattle.fdb_proxy.specs.Resolving.{first_missing}
use Rattle.fdb_proxy.proofs.resolving.first_missing.Given as goal

abbrev pub invariant-loop-resolver : goal.invariant-loop-resolver
invariant-loop-resolver l =
    first_missing l.resolver (drop l.resolver l.parts) (drop l.resolver l.verdicts) ≡ first_missing 0 l.parts l.verdicts
