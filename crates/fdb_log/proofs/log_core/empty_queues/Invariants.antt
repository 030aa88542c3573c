use Rattle.std.proofs.Common.{◌≡◌, [], replicate}
use Rattle.fdb_log.proofs.log_core.empty_queues.Given as goal

abbrev pub invariant-loop-tag : goal.invariant-loop-tag
invariant-loop-tag l = l.queues.items ≡ replicate l._tag []
