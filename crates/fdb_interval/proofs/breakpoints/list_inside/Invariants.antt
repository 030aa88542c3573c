use Rattle.std.proofs.Common.{◌≡◌, ◌++◌}
use Rattle.std.specs.Map.{keys_of}
use Rattle.fdb_interval.proofs.breakpoints.list_inside.Given as goal

abbrev pub invariant-loop-begin : goal.invariant-loop-begin
invariant-loop-begin l = l.inside.items ++ keys_of l.begin-iterator ≡ keys_of l.initial.begin-iterator
