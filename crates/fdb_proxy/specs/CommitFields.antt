-- What the own fields of a commit proxy say.
use Rattle.fdb_proxy.specs.declared.commit_core.CommitCore.TheInside.{Inside}
use Rattle.fdb_proxy.specs.CommitProxies.{CommitProxy, ProxyWithRoom}

abbrev pub proxy_of : Inside → CommitProxy
proxy_of core =
    record {
      index = core.index;
      logs = core.logs;
      shard_splits = core.shards;
      owners = core.owners;
      last = core.last;
      waiting = core.requests.waiting;
      batch = core.requests.batch;
      stage = core.stage;
      is_failed = core.is_failed;
    }

abbrev pub with_room : Inside → ProxyWithRoom
with_room core = record { proxy = proxy_of core; spare = core.requests.spare }
