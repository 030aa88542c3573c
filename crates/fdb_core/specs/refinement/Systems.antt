-- What a world shows of its cluster.
use Rattle.std.specs.Prelude.{map}
use Rattle.fdb_core.specs.declared.cluster.Cluster.{Cluster}
use Rattle.fdb_core.specs.declared.roles.log.LogRole.{LogRole}
use Rattle.fdb_core.specs.declared.roles.resolver.ResolverRole.{ResolverRole}
use Rattle.fdb_core.specs.declared.roles.shard.ShardRole.{ShardRole}
use Rattle.fdb_machine.specs.headline.Serving.{System}
use Rattle.fdb_machine.specs.machine.Failures.{State}
use Rattle.fdb_core.specs.refinement.Cluster.{machine_of}
use Rattle.fdb_core.specs.refinement.Restoring.{failures_of}

-- the machine, with the roles that have failed
abbrev pub state_of : Cluster → State
state_of k = record { machine = machine_of k; failed = failures_of k }

-- that state, and what the sequencer, the resolvers, the logs and the shards keep, with the parts that were made for
-- the resolvers and the messages that were made for the logs
abbrev pub system_of : Cluster → System
system_of k =
    record {
      state = state_of k;
      sequencer = k.sequencer;
      resolvers = map (λ (role : ResolverRole). role.state) k.resolvers.items;
      parts = k.parts.items;
      messages = k.messages.items;
      logs = map (λ (role : LogRole). role.state) k.logs.items;
      shards = map (λ (role : ShardRole). role.state) k.shards.items;
    }
