use Rattle.fdb_core.specs.refinement.Starts.{AreNewShards}
use Rattle.fdb_core.proofs.roles.shard.new_shards.Given as goal

abbrev pub invariant-loop-tag : goal.invariant-loop-tag
invariant-loop-tag l = AreNewShards l.tag l.shard_map l.list.items
