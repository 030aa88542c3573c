use Rattle.std.proofs.Common.{◌≡◌}
use Rattle.fdb_mutations.specs.Pairs.{first_of}
use Rattle.fdb_core.proofs.refinement.shard.Pages.{pairs_read}
use Rattle.fdb_core.proofs.roles.shard_reads.ShardReads.first_pairs.Given as goal

abbrev pub invariant-loop-step : goal.invariant-loop-step
invariant-loop-step l = l.pairs.items ≡ first_of l.wanted (pairs_read l.self l.range l.reverse l.step)
