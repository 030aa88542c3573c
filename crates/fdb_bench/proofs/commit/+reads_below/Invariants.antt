use Rattle.std.proofs.Common.{length}
use Rattle.fdb_bench.proofs.commit.+reads_below.Given as goal

abbrev pub decreases-reads_below : goal.decreases-reads_below
decreases-reads_below l = length l.batch.now
