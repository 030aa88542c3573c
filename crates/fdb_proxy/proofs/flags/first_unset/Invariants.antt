use Rattle.std.proofs.Common.{◌≡◌, drop}
use Rattle.fdb_proxy.specs.Flags.{first_unset}
use Rattle.fdb_proxy.proofs.flags.first_unset.Given as goal

abbrev pub invariant-loop-number : goal.invariant-loop-number
invariant-loop-number l = first_unset l.number (drop l.number l.flags) ≡ first_unset 0 l.flags
