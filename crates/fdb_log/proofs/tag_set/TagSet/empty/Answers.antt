use Rattle.fdb_log.proofs.TagSetLemmas.{bits-none}
use Rattle.fdb_log.proofs.tag_set.TagSet.empty.Goals as goal

pub returns : goal.returns
returns c = bits-none
