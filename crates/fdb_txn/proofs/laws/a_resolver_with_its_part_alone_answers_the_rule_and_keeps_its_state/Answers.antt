use Rattle.fdb_txn.proofs.rules.ResolverLemmas.{state_decides, state_takes_place, state_forgets, forgotten_agree}
use Rattle.fdb_txn.proofs.laws.a_resolver_with_its_part_alone_answers_the_rule_and_keeps_its_state.Goals as goal

pub returns : goal.returns
returns c = record
    { decides = state_decides; takes = state_takes_place; forgets = state_forgets; forgotten = forgotten_agree }
