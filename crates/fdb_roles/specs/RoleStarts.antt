-- Roles before their first entry, and what leaves roles at the entries that they took.
use Rattle.std.specs.Prelude.{◌≡◌, ℕ, suc, List, [], length, None}
use Rattle.fdb_keys.specs.Points.{Point}
use Rattle.fdb_txn.specs.declared.entry.Entry.{Entry}
use Rattle.fdb_txn.specs.declared.entry.Move.{Move}
use Rattle.fdb_txn.specs.rules.Splits.{piece}
use Rattle.fdb_resolver.specs.Resolvers.{Resolver, IsNew}
use Rattle.fdb_sequencer.specs.Sequencer.{Sequencer, fresh, move_fault, moving, report_fault, reporting}
use Rattle.fdb_sequencer.specs.Sequencer.{set_window_fault, windowing}
use Rattle.fdb_log.specs.Logs.{Log, IsNewLog, tag_fault, HasPopped}
use Rattle.fdb_storage.specs.Shards.{Shard, IsNewShard, forget_fault, HasForgotten}
use Rattle.fdb_proxy.specs.declared.config.Config.{Config}
use Rattle.fdb_roles.specs.AtBook.{IsSequencerAt, IsLogAt, IsShardAt, IsResolverAt}

-- new roles took no entries
abbrev pub ResolverStarts : Type 0
ResolverStarts = (splits : List Point) (i : ℕ) (new : Resolver) → IsNew i new → IsResolverAt splits [] i new

abbrev pub SequencerStarts : Type 0
SequencerStarts = (proxies resolvers : ℕ) → IsSequencerAt [] (fresh proxies resolvers 0)

abbrev pub LogStarts : Type 0
LogStarts =
    (config : Config) (l : ℕ) (new : Log) → IsNewLog l config.logs (suc (length config.shard_splits)) new
    → IsLogAt config [] l new

abbrev pub ShardStarts : Type 0
ShardStarts =
    (config : Config) (s : ℕ) (new : Shard) → IsNewShard s (piece config.shard_splits s) new → IsShardAt config [] s new

-- A sequencer to which a version was reported, with which a move was made, or of which the window was set, accepted
-- what it accepted.
abbrev pub SequencerReports : Type 0
SequencerReports =
    (book : List Entry) (old : Sequencer) (version : ℕ) → IsSequencerAt book old → report_fault old version ≡ None
    → IsSequencerAt book (reporting old version)

abbrev pub SequencerMoves : Type 0
SequencerMoves =
    (book : List Entry) (old : Sequencer) (move : Move) → IsSequencerAt book old → move_fault old move ≡ None
    → IsSequencerAt book (moving old move)

abbrev pub SequencerWindows : Type 0
SequencerWindows =
    (book : List Entry) (old : Sequencer) (window : ℕ) → IsSequencerAt book old → set_window_fault window ≡ None
    → IsSequencerAt book (windowing old window)

-- A log that popped a tag took what it took.
abbrev pub LogPops : Type 0
LogPops =
    (config : Config) (book : List Entry) (l tag through : ℕ) (old new : Log) → IsLogAt config book l old
    → tag_fault old tag through ≡ None → HasPopped old tag through new → IsLogAt config book l new

-- A shard that raised its floor applied what it applied.
abbrev pub ShardForgets : Type 0
ShardForgets =
    (config : Config) (book : List Entry) (s version : ℕ) (old new : Shard) → IsShardAt config book s old
    → forget_fault old version ≡ None → HasForgotten old version new → IsShardAt config book s new
