use Rattle.fdb_proxy.proofs.VerdictLemmas.{batches_are_judged_by_the_rule, entries_are_judged_by_the_rule}
use Rattle.fdb_proxy.proofs.laws.what_a_resolver_says_of_its_part_is_the_rule.Goals as goal

pub returns : goal.returns
returns c = record { batches = batches_are_judged_by_the_rule; entries = entries_are_judged_by_the_rule }
