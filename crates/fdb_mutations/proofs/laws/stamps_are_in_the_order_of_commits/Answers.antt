use Rattle.fdb_mutations.proofs.StampLemmas.{stamps_rise}
use Rattle.fdb_mutations.proofs.laws.stamps_are_in_the_order_of_commits.Goals as goal

pub returns-clause-rise : goal.returns-clause-rise
returns-clause-rise c = stamps_rise
