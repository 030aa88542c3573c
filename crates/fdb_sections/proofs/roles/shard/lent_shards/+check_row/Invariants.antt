use Rattle.std.proofs.Common.{length}
use Rattle.fdb_sections.proofs.roles.shard.lent_shards.+check_row.Given as goal

abbrev pub decreases-check_row : goal.decreases-check_row
decreases-check_row g l = length l.shards.now
