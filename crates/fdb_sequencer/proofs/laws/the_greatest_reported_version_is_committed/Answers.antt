use Rattle.fdb_sequencer.proofs.ReportLemmas.{greatest_reported}
use Rattle.fdb_sequencer.proofs.laws.the_greatest_reported_version_is_committed.Goals as goal

pub returns-clause-greatest : goal.returns-clause-greatest
returns-clause-greatest c = greatest_reported
