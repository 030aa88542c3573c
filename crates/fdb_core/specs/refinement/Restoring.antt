-- A cluster in which some roles have failed, and what it was before they failed.
use Rattle.std.specs.Prelude.{◌≡◌, ◌⊎◌, ⊤, Bool, true, List, [], ◌∷◌, map}
use Rattle.std.specs.Global.{Vec}
use Rattle.fdb_core.specs.declared.cluster.Cluster.{Cluster}
use Rattle.fdb_core.specs.declared.roles.commit_proxy.CommitProxyRole.{CommitProxyRole}
use Rattle.fdb_core.specs.declared.roles.log.LogRole.{LogRole}
use Rattle.fdb_core.specs.declared.roles.resolver.ResolverRole.{ResolverRole}
use Rattle.fdb_core.specs.declared.roles.shard.ShardRole.{ShardRole}
use Rattle.fdb_machine.specs.machine.Failures.{Failures}
use Rattle.fdb_core.specs.refinement.Cluster.{Refines}
use Rattle.fdb_core.specs.refinement.commit_proxy.Ties.{seen_as}
use Rattle.fdb_core.specs.refinement.log.Ties.{progress_of}

-- whether a role has failed
abbrev pub proxy_failed : CommitProxyRole → Bool
proxy_failed role = role.state.proxy.is_failed

abbrev pub resolver_failed : ResolverRole → Bool
resolver_failed role = role.state.is_failed

abbrev pub log_failed : LogRole → Bool
log_failed role = role.state.is_failed

abbrev pub shard_failed : ShardRole → Bool
shard_failed role = role.state.is_failed

-- which roles of the cluster have failed
abbrev pub failures_of : Cluster → Failures
failures_of k =
    record {
      commit_proxies = map proxy_failed k.commit_proxies.items;
      resolvers = map resolver_failed k.resolvers.items;
      logs = map log_failed k.logs.items;
      shards = map shard_failed k.shards.items;
    }

-- what the machine and the pool have of a role
abbrev pub SameProxy : CommitProxyRole → CommitProxyRole → Type 0
SameProxy x y = seen_as x ≡ seen_as y

abbrev pub SameResolver : ResolverRole → ResolverRole → Type 0
SameResolver x y = (x.taken ≡ y.taken) × (x.sent.items ≡ y.sent.items)

abbrev pub SameLog : LogRole → LogRole → Type 0
SameLog x y = x.taken ≡ y.taken

abbrev pub SameShard : ShardRole → ShardRole → Type 0
SameShard x y =
    (progress_of x ≡ progress_of y) × (x.state.range ≡ y.state.range) × (x.state.version ≡ y.state.version)

-- Of each two roles the second is what the first was before it failed: the same where the first works, and else one of
-- which the machine and the pool have the same.
abbrev pub Restores : {A : Type 0} → (A → Bool) → (A → A → Type 0) → List A → List A → Type 0
Restores failed Same [] [] = ⊤
Restores failed Same (x ∷ xs) (y ∷ ys) = ((x ≡ y) ⊎ ((failed x ≡ true) × Same x y)) × Restores failed Same xs ys
Restores failed Same [] (y ∷ ys) = ⊥
Restores failed Same (x ∷ xs) [] = ⊥

-- the roles that may fail
pub record Roles : Type 0 where
  pub commit_proxies : Vec CommitProxyRole
  pub resolvers : Vec ResolverRole
  pub logs : Vec LogRole
  pub shards : Vec ShardRole

-- the cluster with such roles in the place of its own
abbrev pub with_roles : Cluster → Roles → Cluster
with_roles k roles = record k {
  commit_proxies = roles.commit_proxies;
  resolvers = roles.resolvers;
  logs = roles.logs;
  shards = roles.shards;
}

-- What holds of a world's cluster between two steps: with the roles that failed as they were before, it is what the
-- book says.
pub record Tied (k : Cluster) : Type 0 where
  pub roles : Roles
  pub commit_proxies : Restores proxy_failed SameProxy k.commit_proxies.items roles.commit_proxies.items
  pub resolvers : Restores resolver_failed SameResolver k.resolvers.items roles.resolvers.items
  pub logs : Restores log_failed SameLog k.logs.items roles.logs.items
  pub shards : Restores shard_failed SameShard k.shards.items roles.shards.items
  pub refines : Refines (with_roles k roles)
