use Rattle.std.proofs.Common.{◌≡◌, take}
use Rattle.fdb_layers.specs.Auditing.{all_noted}
use Rattle.fdb_layers.proofs.auditing.after_pairs.Given as goal

abbrev pub invariant-loop-pair : goal.invariant-loop-pair
invariant-loop-pair l = l.amount ≡ all_noted l.account l.had (take l.pair-index l.pairs)
