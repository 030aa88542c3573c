use Rattle.fdb_proxy.proofs.ConflictLemmas.{conflicts_are_joined_by_the_rule}
use Rattle.fdb_proxy.proofs.FoundLemmas.{batches_are_found_by_the_rule, unasked_find_nothing}
use Rattle.fdb_proxy.proofs.laws.what_resolvers_find_is_joined_to_the_conflict_sets.Goals as goal

pub returns : goal.returns
returns c = record {
  found = batches_are_found_by_the_rule;
  unasked = unasked_find_nothing;
  joined = conflicts_are_joined_by_the_rule;
}
