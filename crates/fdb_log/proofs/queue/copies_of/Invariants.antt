use Rattle.std.proofs.Common.{◌≡◌, ◌-◌, take, drop}
use Rattle.fdb_log.proofs.queue.copies_of.Given as goal

abbrev pub invariant-loop-index : goal.invariant-loop-index
invariant-loop-index l = l.copies ≡ take (l.index - l.start) (drop l.start l.messages.items)
