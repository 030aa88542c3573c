use Rattle.fdb_txn.proofs.rules.ConflictLemmas.{conflicts_are_found, found_is_in_conflict, finder_is_asked}
use Rattle.fdb_txn.proofs.laws.conflict_sets_are_what_resolvers_find.Goals as goal

pub returns : goal.returns
returns c = record { found = conflicts_are_found; conflicts = found_is_in_conflict; asked = finder_is_asked }
