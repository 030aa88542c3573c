use Rattle.std.proofs.Common.{◌≡◌, take, Some}
use Rattle.fdb_load.specs.Sums.{told_sum}
use Rattle.fdb_load.proofs.sums.sum_of.Given as goal

abbrev pub invariant-loop-pair : goal.invariant-loop-pair
invariant-loop-pair l = told_sum (take l.pair-index l.pairs) ≡ Some l.sum
