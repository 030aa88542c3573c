use Rattle.std.proofs.Common.{◌≡◌, ◌++◌, true}
use Rattle.std.specs.Map.{values_of}
use Rattle.fdb_keys.specs.Texts.{is_bound}
use Rattle.fdb_keys.proofs.OutsideLemmas.{gaps}
use Rattle.fdb_keys.proofs.range_map.outside.Given as goal

abbrev pub invariant-loop-begin : goal.invariant-loop-begin
invariant-loop-begin l =
    (is_bound l.reached ≡ true)
    × (l.left.items ++ gaps l.reached l.range.end (values_of l._begin-iterator)
    ≡ gaps l.initial.reached l.range.end (values_of l.initial._begin-iterator))
