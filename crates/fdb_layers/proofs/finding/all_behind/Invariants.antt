use Rattle.std.proofs.Common.{◌≡◌, ◌++◌, drop}
use Rattle.fdb_layers.specs.Finding.{all_behind}
use Rattle.fdb_layers.proofs.finding.all_behind.Given as goal

abbrev pub invariant-loop-key : goal.invariant-loop-key
invariant-loop-key l = l.ids.items ++ all_behind l.prefix (drop l.key-index l.pairs) ≡ all_behind l.prefix l.pairs
