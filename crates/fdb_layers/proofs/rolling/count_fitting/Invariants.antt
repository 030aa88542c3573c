use Rattle.std.proofs.Common.{◌≡◌, ◌≤◌, take, sum_by}
use Rattle.fdb_layers.specs.Rolling.{pair_size}
use Rattle.fdb_layers.proofs.rolling.count_fitting.Given as goal

abbrev pub invariant-loop-pair : goal.invariant-loop-pair
invariant-loop-pair l = record {
  counted : l.count ≡ l.pair-index;
  summed : l.size ≡ sum_by pair_size (take l.pair-index l.pairs);
  fits : l.size ≤ 1_000_000;
}
