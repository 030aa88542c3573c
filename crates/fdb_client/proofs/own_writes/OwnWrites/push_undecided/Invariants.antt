use Rattle.fdb_client.proofs.UndecidedLemmas.{FoundSoFar}
use Rattle.fdb_client.proofs.own_writes.OwnWrites.push_undecided.Given as goal

abbrev pub invariant-loop-text : goal.invariant-loop-text
invariant-loop-text l = FoundSoFar l.self l.range l.initial.parts.items l.parts.items l.left l.text-iterator
