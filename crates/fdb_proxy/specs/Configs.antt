-- Which configurations are legal.
use Rattle.std.specs.Prelude.{Bool, ◌&&◌, Option, Some, if◌then◌else◌}
use Rattle.std.specs.Option.{option_or}
use Rattle.fdb_keys.specs.declared.refusal.Refusal.{Refusal}
use Rattle.fdb_keys.specs.declared.refusal.Refusal.TheVariants.{BadConfig}
use Rattle.fdb_txn.specs.rules.Splits.{splits_fault}
use Rattle.fdb_txn.specs.Limits.{resolver_limit, proxy_limit, log_limit, shard_limit, book_limit}
use Rattle.fdb_sequencer.specs.Sequencer.{is_count}
use Rattle.fdb_proxy.specs.declared.config.Config.{Config}

-- there are legal numbers of proxies, of logs and of entries
abbrev pub has_legal_counts : Config → Bool
has_legal_counts config =
    is_count proxy_limit config.proxies && is_count log_limit config.logs && is_count book_limit config.book

-- why a configuration isn't legal
abbrev pub config_fault : Config → Option Refusal
config_fault config =
    if has_legal_counts config then
    option_or (splits_fault resolver_limit config.resolver_splits) (splits_fault shard_limit config.shard_splits)
    else Some BadConfig
