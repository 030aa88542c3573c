use Rattle.std.proofs.Common.{◌≡◌}
use Rattle.fdb_interval.specs.Heads.{head_by}
use Rattle.fdb_interval.proofs.point_key.head_of_short.Given as goal

abbrev pub invariant-loop-place : goal.invariant-loop-place
invariant-loop-place l = l.head ≡ head_by l.place l.text
