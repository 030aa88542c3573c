use Rattle.fdb_client.proofs.UnreadableLaws.{stamps_never_show}
use Rattle.fdb_client.proofs.laws.stamps_never_show.Goals as goal

pub returns : goal.returns
returns c = stamps_never_show
