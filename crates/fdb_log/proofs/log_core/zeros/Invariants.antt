use Rattle.std.proofs.Common.{◌≡◌, replicate}
use Rattle.fdb_log.proofs.log_core.zeros.Given as goal

abbrev pub invariant-loop-tag : goal.invariant-loop-tag
invariant-loop-tag l = l.zeros.items ≡ replicate l._tag 0
