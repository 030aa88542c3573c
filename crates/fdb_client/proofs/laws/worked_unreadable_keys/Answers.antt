use Rattle.fdb_client.proofs.UnreadableExamplesLemmas.{worked_key_faults, worked_left, worked_range_faults}
use Rattle.fdb_client.proofs.UnreadableExamplesLemmas.{worked_unreadable}
use Rattle.fdb_client.proofs.laws.worked_unreadable_keys.Goals as goal

pub returns-clause-unreadable : goal.returns-clause-unreadable
returns-clause-unreadable c = worked_unreadable

pub returns-clause-left : goal.returns-clause-left
returns-clause-left c = worked_left

pub returns-clause-keys : goal.returns-clause-keys
returns-clause-keys c = worked_key_faults

pub returns-clause-ranges : goal.returns-clause-ranges
returns-clause-ranges c = worked_range_faults
