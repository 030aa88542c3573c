use Rattle.fdb_check.proofs.VisitLemmas.{sorted-ordered}
use Rattle.fdb_check.proofs.visits.sorted_visits.Goals as goal

pub returns-clause-sorted : goal.returns-clause-sorted
returns-clause-sorted c = sorted-ordered c.sort_unstable.new.self.items c.sort_unstable.ensures.sorted
