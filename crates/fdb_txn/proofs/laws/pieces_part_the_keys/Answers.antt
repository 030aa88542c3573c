use Rattle.fdb_txn.proofs.rules.SplitsLemmas.{pieces_part_the_keys}
use Rattle.fdb_txn.proofs.laws.pieces_part_the_keys.Goals as goal

pub returns : goal.returns
returns c = pieces_part_the_keys
