use Rattle.std.proofs.Common.{ℕ, suc, length, List, subst, arith}
use Rattle.fdb_keys.specs.Points.{Point}
use Rattle.fdb_core.specs.refinement.Starts.{AreNewLogs, AreNewShards}
use Rattle.fdb_core.proofs.cluster.new_logs_and_shards.Goals as goal

pub returns : goal.returns
returns c =
    let config = c.args.config.now in
    let count = suc (length config.shard_splits) in (
      subst (λ (tags : ℕ). AreNewLogs config.logs config.logs tags c.in_ok-logs.logs.items)
          (omega (arith, c.len.ensures)) c.in_ok-logs.ensures,
      subst (λ (splits : List Point). AreNewShards count splits c.in_ok-shards.shards.items) c.requires.shard_map
          (subst (λ (n : ℕ). AreNewShards n c.args.shard_map.now c.in_ok-shards.shards.items)
          (omega (arith, c.len.ensures)) c.in_ok-shards.ensures),
    )
