use Rattle.std.proofs.Common.{◌≡◌, drop}
use Rattle.fdb_log.proofs.queue.drop_first.Given as goal

abbrev pub invariant-loop-index : goal.invariant-loop-index
invariant-loop-index l = l.messages.items ≡ drop l._index l.initial.messages.items
