use Rattle.std.proofs.Common.{◌≡◌, map, ◌++◌, take, drop}
use Rattle.fdb_proxy.specs.Askers.{granted}
use Rattle.fdb_proxy.proofs.grv_core.raise.Given as goal

abbrev pub invariant-loop-version : goal.invariant-loop-version
invariant-loop-version l =
    l.asked
    ≡ map (granted l.committed) (take l.version-index l.initial.asked) ++ drop l.version-index l.initial.asked
