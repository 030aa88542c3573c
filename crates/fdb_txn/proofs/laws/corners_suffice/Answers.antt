use Rattle.fdb_txn.proofs.rules.CornersLemmas.{overlaps_at_some_point, asked_at_some_point, owned_at_some_version}
use Rattle.fdb_txn.proofs.laws.corners_suffice.Goals as goal

pub returns : goal.returns
returns c = record { overlaps = overlaps_at_some_point; asked = asked_at_some_point; owned = owned_at_some_version }
