use Rattle.fdb_layers.proofs.FindingExamplesLemmas.{one_list_is_found, values_find_their_records}
use Rattle.fdb_layers.proofs.laws.worked_finding.Goals as goal

pub returns : goal.returns
returns c = record { alone = one_list_is_found; finds = values_find_their_records }
