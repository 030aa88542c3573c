-- Which configurations are legal.
use Rattle.std.specs.Prelude.{◌≡◌, ◌<◌, ◌≤◌, true, length}
use Rattle.fdb_txn.specs.Limits.{resolver_limit, proxy_limit, log_limit, shard_limit, book_limit}
use Rattle.fdb_txn.specs.rules.Splits.{are_splits}
use Rattle.fdb_proxy.specs.declared.config.Config.{Config}

-- the numbers of roles are legal, and the splits are splits
pub record IsLegal (config : Config) : Type 0 where
  pub few_proxies : config.proxies ≤ proxy_limit
  pub few_resolvers : length config.resolver_splits < resolver_limit
  pub some_log : 0 < config.logs
  pub few_logs : config.logs ≤ log_limit
  pub splits : are_splits config.shard_splits ≡ true
  pub few_shards : length config.shard_splits < shard_limit
  pub book : config.book ≤ book_limit
