use Rattle.std.proofs.Common.{◌≡◌, vec_len}
use Rattle.fdb_keys.specs.Joining.{all_put_back}
use Rattle.fdb_keys.proofs.tree_joining.put_all_back.Given as goal

abbrev pub invariant-loop-begin : goal.invariant-loop-begin
invariant-loop-begin l =
    all_put_back l.left.items l.ranges.entries ≡ all_put_back l.initial.left.items l.initial.ranges.entries

abbrev pub decreases-loop-begin : goal.decreases-loop-begin
decreases-loop-begin l = vec_len l.left
