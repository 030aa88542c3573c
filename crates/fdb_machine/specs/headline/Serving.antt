-- What a world shows of its roles, and what holds of it.
use Rattle.std.specs.Prelude.{◌≡◌, ◌<◌, ◌≤◌, ◌++◌, ℕ, suc, true, false, List, map, take, length, Option, Some}
use Rattle.std.specs.Prelude.{None, slice_get, if◌then◌else◌}
use Rattle.fdb_keys.specs.declared.refusal.Refusal.TheVariants.{Stale}
use Rattle.fdb_interval.specs.Versions.{version_at}
use Rattle.fdb_txn.specs.book.Book.{last_version, last_horizon, seen_before}
use Rattle.fdb_txn.specs.rules.Messages.{messages_for}
use Rattle.fdb_txn.specs.rules.Resolvers.{IsStateOf}
use Rattle.fdb_txn.specs.rules.Splits.{piece}
use Rattle.fdb_txn.specs.declared.entry.Entry.{Entry}
use Rattle.fdb_resolver.specs.declared.part.Part.{Part}
use Rattle.fdb_resolver.specs.Resolvers.{Resolver}
use Rattle.fdb_sequencer.specs.declared.dated.Dated.{Dated}
use Rattle.fdb_sequencer.specs.Sequencer.{Sequencer, accept_fault, unlearnt_by}
use Rattle.fdb_sequencer.specs.declared.ticket.Ticket.{Ticket}
use Rattle.fdb_log.specs.declared.message.LogMsg.{LogMsg}
use Rattle.fdb_log.specs.Logs.{Log, keeps, popped_through, kept}
use Rattle.fdb_log.specs.Messages.{above}
use Rattle.fdb_storage.specs.LogMessages.{log_messages}
use Rattle.fdb_storage.specs.Shards.{Shard}
use Rattle.fdb_proxy.specs.declared.config.Config.{Config}
use Rattle.fdb_proxy.specs.Parting.{AreParts}
use Rattle.fdb_proxy.specs.Verdicts.{moves_through}
use Rattle.fdb_roles.specs.Entries.{dated_moves}
use Rattle.fdb_roles.specs.Serving.{ShardServes}
use Rattle.fdb_machine.specs.machine.Failures.{State}
use Rattle.fdb_machine.specs.machine.Roles.{ShardProgress}
use Rattle.fdb_machine.specs.machine.RoleSteps.{version_of_shard}
use Rattle.fdb_machine.specs.machine.Machine.{Machine, is_set}

-- What a world shows: the machine with the roles that have failed, and what each of its roles keeps.
pub record System : Type 0 where
  pub state : State
  pub sequencer : Sequencer
  pub resolvers : List Resolver
  -- for each entry the parts for the resolvers
  pub parts : List (List Part)
  -- for each entry the messages for the logs, once it is decided
  pub messages : List (Option (List LogMsg))
  pub logs : List Log
  pub shards : List Shard

-- Each role of the one list, which says how far the roles are, keeps what the property says; there are as many of
-- these as of those.
abbrev pub EachKeeps : {A B : Type 0} → (ℕ → A → B → Type 0) → List A → List B → Type 0
EachKeeps {A} {B} P far kept =
    (length kept ≡ length far)
    × ((i : ℕ) (a : A) (b : B) → slice_get far i ≡ Some a → slice_get kept i ≡ Some b → P i a b)

-- The sequencer gave each entry its version, and accepts no ticket of an entry again. It keeps the greatest version
-- that was reported, which is none above them. It keeps the moves that take effect with the next entry, and for each
-- commit proxy those that it hasn't had, which are the last ones of the moves of the entries. It keeps the window, and
-- the horizon of the last entry.
abbrev pub SequencerKeeps : Machine → Sequencer → Type 0
SequencerKeeps m sequencer =
    (sequencer.accepted ≡ length m.book) × (sequencer.last ≡ last_version m.book)
    × ((ticket : Ticket) → ticket.index < length m.book → accept_fault sequencer ticket ≡ Some Stale)
    × (sequencer.committed ≡ m.committed) × (sequencer.committed ≤ last_version m.book)
    × (sequencer.pending ≡ m.pending)
    × ((proxy : ℕ) → proxy < m.config.proxies
    → (learnt : List Dated) × (learnt ++ unlearnt_by sequencer proxy ≡ dated_moves m.book))
    × (sequencer.window ≡ m.window) × (sequencer.horizon ≡ last_horizon m.book)

-- A resolver that took so many entries has, unless it has failed, its number and the version of the last of them. From
-- that one's horizon on it tells at each point the greatest version of a place of theirs that it admitted and that
-- wrote the point where the resolver owned it.
abbrev pub ResolverKeeps : Machine → ℕ → ℕ → Resolver → Type 0
ResolverKeeps m i taken resolver =
    resolver.is_failed ≡ false
    → (resolver.index ≡ i) × (resolver.last ≡ last_version (take taken m.book))
    × IsStateOf m.config.resolver_splits i (seen_before m.book taken).places (last_horizon (take taken m.book))
    (version_at resolver.versions)

-- The parts of an entry for the resolvers are made with it, one for each resolver: it has an item for a place exactly
-- where the resolver is asked about the place, with its part of the reads and of the writes.
abbrev pub PartsKeep : Machine → List (List Part) → Type 0
PartsKeep m parts =
    (length parts ≡ length m.book)
    × ((i : ℕ) (entry : Entry) (of : List Part) → slice_get m.book i ≡ Some entry → slice_get parts i ≡ Some of
    → AreParts m.config.resolver_splits (moves_through (seen_before m.book i) entry)
    (record { index = i; version = entry.version; prev = entry.prev; horizon = entry.horizon }) entry.batch of)

-- The messages of an entry for the logs are made once it is decided. They hold just the mutations of its committed
-- transactions, each with its place and its tags: each log's, those of which it keeps a tag.
abbrev pub MessagesKeep : Machine → List (Option (List LogMsg)) → Type 0
MessagesKeep m messages =
    (length messages ≡ length m.book)
    × ((i : ℕ) (entry : Entry) → slice_get m.book i ≡ Some entry
    → slice_get messages i
    ≡ Some (if is_set m.decided i
    then Some (log_messages m.config.resolver_splits m.config.shard_splits m.config.logs i (seen_before m.book i) entry)
    else None))

-- A log that took so many entries and works has its number and the version of the last of them. Of each of its tags it
-- keeps just the messages of these entries above the version through which the tag's shard popped them.
pub record WorkingLogKeeps (m : Machine) (i taken : ℕ) (log : Log) : Type 0 where
  pub number : log.log ≡ i
  pub logs : log.logs ≡ length m.logs
  pub tags : log.tags ≡ length m.shards
  pub last : log.last ≡ last_version (take taken m.book)
  pub popped : (tag : ℕ) (progress : ShardProgress) → keeps log tag ≡ true → slice_get m.shards tag ≡ Some progress
      → popped_through log tag ≡ progress.popped
  pub kept : (tag : ℕ) → keeps log tag ≡ true
      → kept log tag ≡ above (popped_through log tag)
      (messages_for m.config.resolver_splits (piece m.config.shard_splits tag) (take taken m.book))

-- what each log keeps, unless it has failed
abbrev pub LogKeeps : Machine → ℕ → ℕ → Log → Type 0
LogKeeps m i taken log = log.is_failed ≡ false → WorkingLogKeeps m i taken log

-- A shard that is so far and works has its number as its tag and its piece of the keys, and serves from its floor
-- through the version of the last entry that it applied. What its log was told to drop it has applied.
pub record WorkingShardReaches (m : Machine) (i : ℕ) (progress : ShardProgress) (shard : Shard) : Type 0 where
  pub tag : shard.tag ≡ i
  pub range : shard.range ≡ piece m.config.shard_splits i
  pub floor : shard.floor ≡ progress.floor
  pub version : shard.version ≡ version_of_shard m.book progress
  pub popped : progress.popped ≤ shard.version

-- how far each shard is, unless it has failed
abbrev pub ShardReaches : Machine → ℕ → ShardProgress → Shard → Type 0
ShardReaches m i progress shard = shard.is_failed ≡ false → WorkingShardReaches m i progress shard

-- there is a shard for each piece between the splits, and every shard does so
abbrev pub AllServe : Config → List Entry → List Shard → Type 0
AllServe config book shards =
    (length shards ≡ suc (length config.shard_splits))
    × ((i : ℕ) (shard : Shard) → slice_get shards i ≡ Some shard → ShardServes config book i shard)

-- which of the resolvers, the logs and the shards have failed
pub record HaveFailed (system : System) : Type 0 where
  pub resolvers : system.state.failed.resolvers ≡ map (λ (resolver : Resolver). resolver.is_failed) system.resolvers
  pub logs : system.state.failed.logs ≡ map (λ (log : Log). log.is_failed) system.logs
  pub shards : system.state.failed.shards ≡ map (λ (shard : Shard). shard.is_failed) system.shards

-- What each role keeps is what the book says of it, unless the role has failed.
abbrev pub RolesKeep : System → Type 0
RolesKeep system = let m = system.state.machine in
    HaveFailed system × SequencerKeeps m system.sequencer
    × EachKeeps (ResolverKeeps m) m.resolvers system.resolvers
    × PartsKeep m system.parts
    × MessagesKeep m system.messages
    × EachKeeps (LogKeeps m) m.logs system.logs
    × EachKeeps (ShardReaches m) m.shards system.shards
    × AllServe m.config m.book system.shards
