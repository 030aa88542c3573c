use Rattle.std.proofs.Common.{◌≡◌}
use Rattle.fdb_client.proofs.UnreadableLemmas.{has_unreadable}
use Rattle.fdb_client.proofs.own_writes.OwnWrites.is_unreadable_in.Given as goal

abbrev pub invariant-loop-text : goal.invariant-loop-text
invariant-loop-text l = has_unreadable l._text-iterator ≡ has_unreadable l.initial._text-iterator
