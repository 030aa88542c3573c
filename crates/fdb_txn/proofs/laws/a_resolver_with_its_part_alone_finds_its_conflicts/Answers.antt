use Rattle.fdb_txn.proofs.rules.ConflictLemmas.{state_finds_conflicts}
use Rattle.fdb_txn.proofs.laws.a_resolver_with_its_part_alone_finds_its_conflicts.Goals as goal

pub returns : goal.returns
returns c = state_finds_conflicts
