use Rattle.std.proofs.Common.{◌≡◌, drop}
use Rattle.fdb_load.specs.Rings.{value_at}
use Rattle.fdb_load.proofs.values.value_of.Given as goal

abbrev pub invariant-loop-at : goal.invariant-loop-at
invariant-loop-at l = value_at (drop l.at-index l.pairs) l.key ≡ value_at l.pairs l.key
