use Rattle.fdb_client.proofs.UnreadableLaws.{unreadable-count}
use Rattle.fdb_client.proofs.laws.unreadable_keys_count_as_pairs.Goals as goal

pub returns : goal.returns
returns c = unreadable-count c.scanned_decides_what_is_given.ensures.given
