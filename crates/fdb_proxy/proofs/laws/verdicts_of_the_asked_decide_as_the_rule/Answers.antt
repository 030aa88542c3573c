use Rattle.fdb_proxy.proofs.OutcomeLemmas.{batches_are_decided_by_the_rule, entries_are_decided_by_the_rule}
use Rattle.fdb_proxy.proofs.laws.verdicts_of_the_asked_decide_as_the_rule.Goals as goal

pub returns : goal.returns
returns c = record { batches = batches_are_decided_by_the_rule; entries = entries_are_decided_by_the_rule }
