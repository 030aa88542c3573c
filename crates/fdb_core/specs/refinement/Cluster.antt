-- The cluster of a world as the machine, and what ties the roles' own lists to it.
use Rattle.std.specs.Prelude.{◌≡◌, ℕ, ◌+◌, ◌<◌, ◌≤◌, Bool, true, false, List, [], map, length, Option, Some, None}
use Rattle.std.specs.Prelude.{slice_get, if◌then◌else◌, suc}
use Rattle.std.specs.List.{AllByRecursion}
use Rattle.fdb_keys.specs.Points.{Point}
use Rattle.fdb_keys.specs.Ranges.{Range}
use Rattle.fdb_txn.specs.declared.entry.Entry.{Entry}
use Rattle.fdb_txn.specs.declared.entry.Move.{Move}
use Rattle.fdb_txn.specs.book.History.{AreEntries, HorizonsRise}
use Rattle.fdb_txn.specs.book.Book.{Seen, last_version, last_horizon, seen_before}
use Rattle.fdb_sequencer.specs.Sequencer.{Sequencer}
use Rattle.fdb_log.specs.declared.message.LogMsg.{LogMsg}
use Rattle.fdb_storage.specs.LogMessages.{log_messages}
use Rattle.fdb_proxy.specs.declared.config.Config.{Config}
use Rattle.fdb_proxy.specs.Askers.{Asker}
use Rattle.fdb_roles.specs.Entries.{moves_in}
use Rattle.fdb_roles.specs.Legal.{IsLegal}
use Rattle.fdb_roles.specs.ProxyStages.{AreConflictsOn}
use Rattle.fdb_core.specs.declared.cluster.Cluster.{Cluster}
use Rattle.fdb_core.specs.declared.roles.commit_proxy.CommitProxyRole.{CommitProxyRole}
use Rattle.fdb_machine.specs.machine.Machine.{Machine, is_set}
use Rattle.fdb_machine.specs.machine.Sessions.{EachOpen}
use Rattle.fdb_core.specs.refinement.commit_proxy.Ties.{ReadsWithin, CommitProxyRefines, Known, known_to, seen_as}
use Rattle.fdb_core.specs.refinement.resolver.Resolving.{ResolversRefine, PartsRefine, taken_by}
use Rattle.fdb_core.specs.refinement.log.Ties.{logs_taken, progress_of, LogsRefine}

-- who asks at a read-version proxy
abbrev pub sessions_of : List Asker → List ℕ
sessions_of asked = map (λ (asker : Asker). asker.0) asked

-- the machine that a world's cluster stands for
abbrev pub machine_of : Cluster → Machine
machine_of k =
    record {
      config = k.config;
      book = k.book.items;
      entry_proxies = k.entry_proxies.items;
      decided = k.decided.items;
      pending = k.sequencer.pending;
      window = k.sequencer.window;
      commit_proxies = map seen_as k.commit_proxies.items;
      resolvers = taken_by k.resolvers.items;
      logs = logs_taken k.logs.items;
      shards = map progress_of k.shards.items;
      grv_proxies = map sessions_of k.grv_proxies.items;
      sessions = k.sessions;
      committed = k.sequencer.committed;
      acknowledged = k.acknowledged.items;
    }

-- the messages of entry i for the logs
abbrev pub messages_on : Config → ℕ → Seen → Entry → List LogMsg
messages_on config i before entry = log_messages config.resolver_splits config.shard_splits config.logs i before entry

-- the book, with what stands beside each entry
pub record BookRefines (config : Config) (book : List Entry) (entry_proxies : List ℕ) (decided : List Bool)
    (messages : List (Option (List LogMsg))) : Type 0 where
  pub entries : AreEntries (suc (length config.resolver_splits)) 0 book
  pub each_has_proxy : length entry_proxies ≡ length book
  pub each_flagged : length decided ≡ length book
  pub each_pooled : length messages ≡ length book
  -- a decided entry has its messages in the pool, and no other has any
  pub made : (i : ℕ) (entry : Entry) → slice_get book i ≡ Some entry
      → slice_get messages i
      ≡ Some (if is_set decided i then Some (messages_on config i (seen_before book i) entry) else None)
  pub horizons : HorizonsRise 0 book

-- for each entry the conflict sets of its places, once it is decided
pub record ConflictsRefine (splits : List Point) (book : List Entry) (decided : List Bool)
    (conflicts : List (List (List Range))) : Type 0 where
  pub each_kept : length conflicts ≡ length book
  pub by_rule : (i : ℕ) (entry : Entry) (of : List (List Range)) → slice_get book i ≡ Some entry
      → is_set decided i ≡ true → slice_get conflicts i ≡ Some of
      → AreConflictsOn splits (seen_before book i) entry of
  pub undecided : (i : ℕ) (of : List (List Range)) → is_set decided i ≡ false → slice_get conflicts i ≡ Some of
      → of ≡ []

-- the sequencer gave each entry its ticket
pub record SequencerRefines (config : Config) (book : List Entry) (sequencer : Sequencer) : Type 0 where
  pub proxies : sequencer.proxies ≡ config.proxies
  pub accepted : sequencer.accepted ≡ length book
  pub last : sequencer.last ≡ last_version book
  pub committed : sequencer.committed ≤ last_version book
  pub resolvers : sequencer.resolvers ≡ suc (length config.resolver_splits)
  pub count : length sequencer.unlearnt ≡ config.proxies
  pub targets : AllByRecursion (λ (move : Move). move.to < sequencer.resolvers) sequencer.pending
  pub made : sequencer.made ≡ moves_in book + length sequencer.pending
  pub horizon : sequencer.horizon ≡ last_horizon book
  pub window : 1 ≤ sequencer.window

-- the commit proxies, of which there are as many as the configuration says
pub record CommitProxiesRefine (config : Config) (book : List Entry)
    (known : ℕ → Known) (roles : List CommitProxyRole) : Type 0 where
  pub count : length roles ≡ config.proxies
  pub each : (i : ℕ) (role : CommitProxyRole) → slice_get roles i ≡ Some role
      → CommitProxyRefines config book (known i) role

-- who asks for a read version has seen none
abbrev pub HasSeenNone : Asker → Type 0
HasSeenNone asker = asker.1 ≡ 0

-- the read-version proxies, of which there are as many
pub record GrvProxiesRefine (config : Config) (asked : List (List Asker)) : Type 0 where
  pub count : length asked ≡ config.proxies
  pub each : (i : ℕ) (there : List Asker) → slice_get asked i ≡ Some there → AllByRecursion HasSeenNone there

-- what holds of a world's cluster between two steps
pub record Refines (k : Cluster) : Type 0 where
  pub legal : IsLegal k.config
  pub room : length k.book.items ≤ k.config.book
  pub sequencer : SequencerRefines k.config k.book.items k.sequencer
  pub book : BookRefines k.config k.book.items k.entry_proxies.items k.decided.items k.messages.items
  pub parts : PartsRefine k.config.resolver_splits k.book.items k.parts.items
  pub resolvers : ResolversRefine k.config.resolver_splits k.book.items k.resolvers.items
  pub logs : LogsRefine k.config k.book.items k.logs.items k.shards.items
  pub shard_map : k.shard_map ≡ k.config.shard_splits
  pub commit_proxies : CommitProxiesRefine k.config k.book.items (known_to k.sequencer) k.commit_proxies.items
  pub grv_proxies : GrvProxiesRefine k.config k.grv_proxies.items
  pub opened : EachOpen (ReadsWithin k.sequencer.committed) k.sessions
  pub conflicts : ConflictsRefine k.config.resolver_splits k.book.items k.decided.items k.conflicts.items
