use Rattle.std.proofs.Common.{◌∙◌}
use Rattle.fdb_client.proofs.txn_state.TxnState.note_range.Goals as goal

pub scanned_part-requires : goal.scanned_part-requires
scanned_part-requires c = (c.requires.given.0, c.as_slice.ensures ∙ c.requires.given.1)
