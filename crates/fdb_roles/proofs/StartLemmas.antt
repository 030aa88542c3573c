-- What holds of a legal configuration, and of roles before the first entry.
use Rattle.std.proofs.Common.{◌≡◌, refl, ℕ, zero, suc, List, [], replicate, unwrap_or, slice_get, ◌<◌, ◌≤◌, true, arith}
use Rattle.std.proofs.Common.{length, Bool, false, if◌then◌else◌, Some, None, Option}
use Rattle.std.specs.Prelude.{nat_le, ◌&&◌, nat_lt}
use Rattle.std.proofs.lemmas.Bool.{and_parts, leb-true, ltb-true}
use Rattle.std.specs.Option.{option_or}
use Rattle.fdb_keys.specs.Points.{Point}
use Rattle.fdb_keys.specs.declared.refusal.Refusal.TheVariants.{BadConfig}
use Rattle.fdb_keys.specs.declared.refusal.Refusal.{Refusal}
use Rattle.fdb_txn.specs.rules.Splits.{are_splits, splits_fault}
use Rattle.fdb_txn.specs.Limits.{resolver_limit, proxy_limit, log_limit, shard_limit, book_limit}
use Rattle.fdb_sequencer.specs.declared.dated.Dated.{Dated}
use Rattle.fdb_sequencer.specs.Sequencer.{is_count}
use Rattle.fdb_proxy.specs.Configs.{config_fault, has_legal_counts}
use Rattle.fdb_proxy.specs.declared.config.Config.{Config}
use Rattle.fdb_roles.specs.Legal.{IsLegal}

-- has no moves for any proxy
pub none-unlearnt : (proxies i : ℕ) → unwrap_or (slice_get (replicate {A = List Dated} proxies []) i) [] ≡ []
none-unlearnt zero i = refl
none-unlearnt (suc n) zero = refl
none-unlearnt (suc n) (suc i) = none-unlearnt n i

-- a number that is one
count-of : (limit n : ℕ) → is_count limit n ≡ true → (0 < n) × (n ≤ limit)
count-of limit n is =
    let parts = and_parts (nat_le 1 n) (nat_le n limit) is in
    let some = leb-true 1 n parts.0 in
    (omega (arith, some), leb-true n limit parts.1)

-- splits that are so few
few-of : (most : ℕ) (splits : List Point) → splits_fault most splits ≡ None
    → (length splits < most) × (are_splits splits ≡ true)
few-of most splits none =
    let parts = and_parts (nat_lt (length splits) most) (are_splits splits) (legal_where (nat_lt (length splits) most
    && are_splits splits) none) in
    (ltb-true (length splits) most parts.0, parts.1)
  where
    legal_where : (test : Bool) → (if test then None else Some BadConfig) ≡ None → test ≡ true
    legal_where true none = refl
    legal_where false none = cc

-- a configuration without a fault is legal
pub legal-from : (config : Config) → config_fault config ≡ None → IsLegal config
legal-from config none =
    let parts = both (has_legal_counts config) (splits_fault resolver_limit config.resolver_splits)
    (splits_fault shard_limit config.shard_splits) none in
    let books = and_parts (is_count proxy_limit config.proxies && is_count log_limit config.logs)
    (is_count book_limit config.book) parts.0 in
    let proxies = and_parts (is_count proxy_limit config.proxies) (is_count log_limit config.logs) books.0 in
    let logs = count-of log_limit config.logs proxies.1 in
    let shards = few-of shard_limit config.shard_splits parts.2 in
    record {
      few_proxies = (count-of proxy_limit config.proxies proxies.0).1;
      few_resolvers = (few-of resolver_limit config.resolver_splits parts.1).0;
      some_log = logs.0;
      few_logs = logs.1;
      splits = shards.1;
      few_shards = shards.0;
      book = (count-of book_limit config.book books.1).1;
    }
  where
    both : (test : Bool) (first second : Option Refusal)
        → (if test then option_or first second else Some BadConfig) ≡ None
        → (test ≡ true) × (first ≡ None) × (second ≡ None)
    both true None second none = (refl, refl, none)
    both true (Some why) second none = cc
    both false first second none = cc
