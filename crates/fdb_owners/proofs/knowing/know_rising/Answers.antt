use Rattle.fdb_interval.proofs.Exports.{rising_from_sorted}
use Rattle.fdb_owners.proofs.knowing.know_rising.Goals as goal

pub returns : goal.returns
returns c = rising_from_sorted c.args.breaks.now.entries c.len-count.ensures.ordered
