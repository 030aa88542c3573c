-- Which configurations are legal, which versions are granted, and who is asked about reads, computed.
use Rattle.std.specs.Prelude.{◌≡◌, ℕ, Bool, true, false, List, [], ◌∷◌, map, Some, None}
use Rattle.std.specs.List.{range_with_len}
use Rattle.fdb_keys.specs.Points.{Point}
use Rattle.fdb_keys.specs.declared.refusal.Refusal.TheVariants.{BadConfig}
use Rattle.fdb_mutations.specs.Examples.{one}
use Rattle.fdb_txn.specs.book.Book.{DatedMove, head_at}
use Rattle.fdb_txn.specs.book.Transactions.{Transaction}
use Rattle.fdb_proxy.specs.declared.config.Config.{Config}
use Rattle.fdb_proxy.specs.Askers.{granted}
use Rattle.fdb_proxy.specs.CommitProxies.{new_fault}
use Rattle.fdb_proxy.specs.Configs.{config_fault}
use Rattle.fdb_proxy.specs.Verdicts.{asks_about}

-- so many proxies, logs and entries, with one resolver and one shard
abbrev pub counts : (proxies logs book : ℕ) → Config
counts proxies logs book =
    record { proxies = proxies; logs = logs; resolver_splits = []; shard_splits = []; book = book }

-- one proxy, log and entry, with these splits
abbrev pub splits : (resolver_splits shard_splits : List Point) → Config
splits resolver_splits shard_splits =
    record { proxies = 1; logs = 1; resolver_splits = resolver_splits; shard_splits = shard_splits; book = 1 }

-- so many splits that rise
abbrev pub rising : ℕ → List Point
rising count = map one (range_with_len 1 count)

-- The least and the greatest number of each role and of entries, and what lies below and above. Of resolvers and of
-- shards there is one more than splits, which rise strictly, the first one after the empty key.
abbrev pub WorkedConfigs : Type 0
WorkedConfigs =
    (config_fault (counts 1 1 1) ≡ None)
    × (config_fault (counts 16 16 1048576) ≡ None)
    × (config_fault (counts 0 1 1) ≡ Some BadConfig)
    × (config_fault (counts 17 1 1) ≡ Some BadConfig)
    × (config_fault (counts 1 0 1) ≡ Some BadConfig)
    × (config_fault (counts 1 17 1) ≡ Some BadConfig)
    × (config_fault (counts 1 1 0) ≡ Some BadConfig)
    × (config_fault (counts 1 1 1048577) ≡ Some BadConfig)
    × (config_fault (splits (one 98 ∷ one 99 ∷ []) (one 97 ∷ one 120 ∷ [])) ≡ None)
    × (config_fault (splits (one 99 ∷ one 98 ∷ []) []) ≡ Some BadConfig)
    × (config_fault (splits (one 98 ∷ one 98 ∷ []) []) ≡ Some BadConfig)
    × (config_fault (splits ([] ∷ one 98 ∷ []) []) ≡ Some BadConfig)
    × (config_fault (splits [] (one 99 ∷ one 98 ∷ [])) ≡ Some BadConfig)
    × (config_fault (splits [] (one 98 ∷ one 98 ∷ [])) ≡ Some BadConfig)
    × (config_fault (splits [] ([] ∷ one 98 ∷ [])) ≡ Some BadConfig)
    × (config_fault (splits (rising 63) (rising 63)) ≡ None)
    × (config_fault (splits (rising 64) []) ≡ Some BadConfig)
    × (config_fault (splits [] (rising 64)) ≡ Some BadConfig)

-- Proxies are numbered from 0. There is none with the number of proxies or above it, and none by a configuration that
-- isn't legal.
abbrev pub WorkedNumbers : Type 0
WorkedNumbers =
    (new_fault 0 (counts 1 1 1) ≡ None)
    × (new_fault 1 (counts 1 1 1) ≡ Some BadConfig)
    × (new_fault 2 (counts 1 1 1) ≡ Some BadConfig)
    × (new_fault 15 (counts 16 16 1) ≡ None)
    × (new_fault 16 (counts 16 16 1) ≡ Some BadConfig)
    × (new_fault 0 (counts 17 1 1) ≡ Some BadConfig)
    × (new_fault 0 (counts 1 0 1) ≡ Some BadConfig)

-- Whoever asks is granted the committed version, or the one that it has seen where that is greater. Each gets an answer
-- of its own, in the order in which they asked, whatever was granted to those before and to itself.
abbrev pub WorkedGrants : Type 0
WorkedGrants =
    (client : ℕ)
    → (granted 0 (client, 0) ≡ (client, 0))
    × (granted 100 (client, 0) ≡ (client, 100))
    × (granted 100 (client, 99) ≡ (client, 100))
    × (granted 100 (client, 100) ≡ (client, 100))
    × (granted 100 (client, 101) ≡ (client, 101))
    × (map (granted 100) ((client, 40) ∷ (1, 140) ∷ (2, 0) ∷ (client, 100) ∷ [])
    ≡ (client, 100) ∷ (1, 140) ∷ (2, 100) ∷ (client, 100) ∷ [])

-- of two resolvers, 0 has the keys below `m` and 1 the others, up to version 60, from which 0 has all
abbrev pub moved : List DatedMove
moved = record { version = 60; range = record { begin = one 109; end = one 122 }; target = 0 } ∷ []

-- a transaction that read `p` at the version
abbrev pub reader : ℕ → Transaction
reader version =
    record {
      id = record { session = 0; number = 0 };
      read = version;
      reads = record { begin = one 112; end = one 113 } ∷ [];
      writes = [];
      mutations = [];
    }

-- whether a resolver is asked about a transaction of version 200 with that horizon, which read at this version
abbrev pub asks : (i horizon read : ℕ) → Bool
asks i horizon read = asks_about (one 109 ∷ []) (head_at 200 horizon moved) i 0 (reader read ∷ [])

-- Reads are asked of whoever owned them at a version above the read version, or above the horizon where that is
-- greater: a read below the horizon is asked of the owners from the horizon on. Where the greater one isn't below the
-- place's version, nobody is asked.
abbrev pub WorkedSpans : Type 0
WorkedSpans =
    (asks 0 20 40 ≡ true)
    × (asks 1 20 40 ≡ true)
    × (asks 1 20 58 ≡ true)
    × (asks 1 20 59 ≡ false)
    × (asks 1 58 40 ≡ true)
    × (asks 1 59 40 ≡ false)
    × (asks 0 59 40 ≡ true)
    × (asks 0 199 40 ≡ true)
    × (asks 0 200 40 ≡ false)
    × (asks 0 20 199 ≡ true)
    × (asks 0 20 200 ≡ false)
