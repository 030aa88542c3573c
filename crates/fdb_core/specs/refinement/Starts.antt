-- Resolvers, logs and shards before their first entry.
use Rattle.std.specs.Prelude.{◌≡◌, ℕ, List, [], length}
use Rattle.fdb_keys.specs.Points.{Point}
use Rattle.fdb_txn.specs.rules.Splits.{piece}
use Rattle.fdb_log.specs.Logs.{IsNewLog}
use Rattle.fdb_storage.specs.Shards.{IsNewShard}
use Rattle.fdb_core.specs.declared.roles.log.LogRole.{LogRole}
use Rattle.fdb_core.specs.declared.roles.resolver.ResolverRole.{ResolverRole}
use Rattle.fdb_core.specs.declared.roles.shard.ShardRole.{ShardRole}
use Rattle.fdb_roles.specs.Lists.{Each}
use Rattle.fdb_core.specs.refinement.resolver.Resolving.{ResolverRefines}

-- the first n of so many logs for so many tags, which took nothing
pub record AreNewLogs (n count tags : ℕ) (logs : List LogRole) : Type 0 where
  pub as_many : length logs ≡ n
  pub each : Each (λ (i : ℕ) (role : LogRole). IsNewLog i count tags role.state × (role.taken ≡ 0)) logs

-- the first n shards between the splits, which applied nothing
pub record AreNewShards (n : ℕ) (splits : List Point) (shards : List ShardRole) : Type 0 where
  pub as_many : length shards ≡ n
  pub each : Each (λ (i : ℕ) (role : ShardRole).
      IsNewShard i (piece splits i) role.state × (role.applied ≡ 0) × (role.popped ≡ 0)) shards

-- the resolver with the number, which took nothing
abbrev pub IsNewResolver : ℕ → ResolverRole → Type 0
IsNewResolver i role = ((splits : List Point) → ResolverRefines splits [] i role) × (role.taken ≡ 0)
