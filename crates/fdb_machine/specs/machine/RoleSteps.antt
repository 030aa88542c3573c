-- The steps of resolvers, logs and shards.
use Rattle.std.specs.Prelude.{ℕ, ◌+◌, min, max, not, take, length, Result, Ok, slice_get, slice_set, nat_lt, List}
use Rattle.std.specs.Prelude.{Option, Some, None}
use Rattle.fdb_keys.specs.declared.refusal.Refusal.{Refusal}
use Rattle.fdb_keys.specs.declared.refusal.Refusal.TheVariants.{Unknown, FutureVersion}
use Rattle.fdb_txn.specs.declared.entry.Entry.{Entry}
use Rattle.fdb_txn.specs.book.Book.{last_version, seen_before}
use Rattle.fdb_log.specs.Messages.{log_of}
use Rattle.fdb_storage.specs.Shards.{serving_fault}
use Rattle.fdb_proxy.specs.Verdicts.{verdicts_on}
use Rattle.fdb_machine.specs.machine.Roles.{ShardProgress}
use Rattle.fdb_machine.specs.machine.Machine.{Machine, Transition, found, refused_where, in_turn, is_set}
use Rattle.fdb_machine.specs.declared.step.Answered.TheVariants as answered

-- Resolve: entries are taken in order, each once.
unfoldable pub resolves : Machine → ℕ → ℕ → Result Transition Refusal
resolves m i resolver = found (slice_get m.book i)
    (λ (entry : Entry). found (slice_get m.resolvers resolver) (λ (taken : ℕ).
    in_turn taken i entry
    (Ok (record {
      answer = answered.Verdicts (verdicts_on m.config.resolver_splits resolver (seen_before m.book i) entry);
      next = record m { resolvers = slice_set m.resolvers resolver (taken + 1) };
    }))))

-- Push: a log's message is there once its entry is decided. Entries are taken in order, each once.
unfoldable pub pushes : Machine → ℕ → ℕ → Result Transition Refusal
pushes m i log = found (slice_get m.book i) (λ (entry : Entry). found (slice_get m.logs log) (λ (taken : ℕ).
    refused_where (not (is_set m.decided i)) Unknown
    (in_turn taken i entry
    (Ok (record {
      answer = answered.Done;
      next = record m { logs = slice_set m.logs log (taken + 1) };
    })))))

-- the version through which a shard applied the book
abbrev pub version_of_shard : List Entry → ShardProgress → ℕ
version_of_shard book progress = last_version (take progress.applied book)

-- Pull: the shard applies the next messages that its log has, at most as many as the limit.
unfoldable pub pulls : Machine → ℕ → ℕ → Result Transition Refusal
pulls m shard limit = found (slice_get m.shards shard)
    (λ (progress : ShardProgress). found (slice_get m.logs (log_of (length m.logs) shard)) (λ (has : ℕ).
    let applied = max progress.applied (min has (progress.applied + limit)) in
    Ok (record {
      answer = answered.Version (last_version (take applied m.book));
      next = record m { shards = slice_set m.shards shard (record progress { applied = applied }) };
    })))

-- Forget: the shard serves from the version on, or from its floor where that is greater. It isn't told to forget what
-- it hasn't reached.
unfoldable pub forgets : Machine → ℕ → ℕ → Result Transition Refusal
forgets m shard version = found (slice_get m.shards shard) (λ (progress : ShardProgress).
    let floor = max progress.floor version in
    refused_where (nat_lt (version_of_shard m.book progress) version) FutureVersion
    (Ok (record {
      answer = answered.Version floor;
      next = record m { shards = slice_set m.shards shard (record progress { floor = floor }) };
    })))

-- Pop: the shard's log drops its messages through the shard's version.
unfoldable pub pops : Machine → ℕ → Result Transition Refusal
pops m shard = found (slice_get m.shards shard) (λ (progress : ShardProgress).
    let version = version_of_shard m.book progress in
    Ok (record {
      answer = answered.Version version;
      next = record m { shards = slice_set m.shards shard (record progress { popped = version }) };
    }))

-- why a shard does not serve a version
abbrev pub shard_fault : List Entry → ℕ → Option ShardProgress → Option Refusal
shard_fault book version None = Some Unknown
shard_fault book version (Some progress) = serving_fault version progress.floor (version_of_shard book progress)
