use Rattle.std.proofs.Common.{length}
use Rattle.fdb_sections.proofs.roles.shard.reader.Reader.+get_of.Given as goal

abbrev pub decreases-get_of : goal.decreases-get_of
decreases-get_of g l = length l.shards.now
