use Rattle.fdb_check.proofs.EntryLemmas.{FollowFrom}
use Rattle.fdb_check.proofs.entries.are_entries.Given as goal

abbrev pub invariant-loop-entry : goal.invariant-loop-entry
invariant-loop-entry l = FollowFrom l.resolvers l.book l.entry-index l.last l.horizon
