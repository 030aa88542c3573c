-- A cluster of which only roles change.
use Rattle.fdb_core.specs.declared.cluster.Cluster.{Cluster}
use Rattle.fdb_core.specs.refinement.Cluster.{Refines, CommitProxiesRefine}
use Rattle.fdb_core.specs.refinement.Restoring.{Roles, with_roles}
use Rattle.fdb_core.specs.refinement.commit_proxy.Ties.{known_to}
use Rattle.fdb_core.specs.refinement.log.Ties.{LogsRefine}
use Rattle.fdb_core.specs.refinement.resolver.Resolving.{ResolversRefine}

-- its roles
abbrev pub roles_of : Cluster → Roles
roles_of k =
    record { commit_proxies = k.commit_proxies; resolvers = k.resolvers; logs = k.logs; shards = k.shards }

-- It is what the book says where its roles are.
pub roles-refine : (k : Cluster) → Refines k → (roles : Roles)
    → CommitProxiesRefine k.config k.book.items (known_to k.sequencer) roles.commit_proxies.items
    → ResolversRefine k.config.resolver_splits k.book.items roles.resolvers.items
    → LogsRefine k.config k.book.items roles.logs.items roles.shards.items
    → Refines (with_roles k roles)
roles-refine k before roles commit_proxies resolvers logs = record {
  legal = before.legal;
  room = before.room;
  sequencer = before.sequencer;
  book = before.book;
  parts = before.parts;
  resolvers = resolvers;
  logs = logs;
  shard_map = before.shard_map;
  commit_proxies = commit_proxies;
  grv_proxies = before.grv_proxies;
  opened = before.opened;
  conflicts = before.conflicts;
}
