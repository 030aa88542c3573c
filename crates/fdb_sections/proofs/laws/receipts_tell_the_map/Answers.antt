use Rattle.fdb_sections.proofs.ReceiptLaws.{receipts_tell_the_map}
use Rattle.fdb_sections.proofs.laws.receipts_tell_the_map.Goals as goal

pub returns : goal.returns
returns c = receipts_tell_the_map
