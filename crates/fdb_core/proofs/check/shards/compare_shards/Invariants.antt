use Rattle.std.proofs.Common.{take}
use Rattle.std.specs.List.{AllByRecursion}
use Rattle.fdb_core.specs.check.Holding.{HasTheMapThere}
use Rattle.fdb_core.proofs.check.shards.compare_shards.Given as goal

abbrev pub invariant-loop-number : goal.invariant-loop-number
invariant-loop-number l = AllByRecursion (HasTheMapThere l.from l.until l.map) (take l.number l.shards)
