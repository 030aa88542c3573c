use Rattle.std.proofs.Common.{◌≡◌, ◌++◌}
use Rattle.std.specs.Map.{keys_of}
use Rattle.fdb_keys.proofs.range_map.list_begins_within.Given as goal

abbrev pub invariant-loop-begin : goal.invariant-loop-begin
invariant-loop-begin l = l.begins.items ++ keys_of l.begin-iterator ≡ keys_of l.initial.begin-iterator
