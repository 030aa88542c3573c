use Rattle.std.proofs.Common.{length}
use Rattle.fdb_sections.proofs.roles.shard.reader.Reader.+add_pairs.Given as goal

abbrev pub decreases-add_pairs : goal.decreases-add_pairs
decreases-add_pairs g l = length l.shards.now
