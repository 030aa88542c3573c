-- A role whose state is that of a book, and that takes its message of one more entry, has the state of the book with
-- that entry.
use Rattle.std.specs.Prelude.{◌≡◌, ◌+◌, ◌<◌, ◌≤◌, ℕ, suc, List, [], ◌∷◌, ◌++◌, length, take, None}
use Rattle.std.specs.List.{AllByRecursion}
use Rattle.fdb_keys.specs.Points.{Point}
use Rattle.fdb_txn.specs.declared.entry.Entry.{Entry}
use Rattle.fdb_txn.specs.book.Book.{seen_of, last_version, last_horizon}
use Rattle.fdb_txn.specs.book.History.{AreEntries, HorizonsRise}
use Rattle.fdb_txn.specs.book.Transactions.{Transaction, NamesWrites}
use Rattle.fdb_txn.specs.rules.Messages.{message_for, messages_after}
use Rattle.fdb_txn.specs.rules.Splits.{piece}
use Rattle.fdb_owners.specs.Ownership.{Ownership, HasLearnt}
use Rattle.fdb_owners.specs.OwnersLaws.{AgreesWith}
use Rattle.fdb_resolver.specs.declared.part.Part.{Part}
use Rattle.fdb_resolver.specs.declared.verdict.Verdicts.{Verdicts}
use Rattle.fdb_resolver.specs.Resolvers as resolver
use Rattle.fdb_resolver.specs.Resolvers.{Resolver, part_fault, IsAnswer}
use Rattle.fdb_sequencer.specs.declared.ticket.Ticket.{Ticket}
use Rattle.fdb_sequencer.specs.Sequencer.{Sequencer, accept_fault, accepting}
use Rattle.fdb_log.specs.declared.message.LogMsg.{LogMsg}
use Rattle.fdb_log.specs.declared.peek.Peek.{Peek}
use Rattle.fdb_log.specs.Logs as logs
use Rattle.fdb_log.specs.Logs.{Log, push_fault, peek_fault, peek_of}
use Rattle.fdb_storage.specs.LogMessages.{log_message}
use Rattle.fdb_storage.specs.Shards.{Shard, apply_fault, HasApplied}
use Rattle.fdb_proxy.specs.declared.config.Config.{Config}
use Rattle.fdb_proxy.specs.Parting.{IsPartOf}
use Rattle.fdb_proxy.specs.Verdicts.{moves_through, verdicts_on}
use Rattle.fdb_roles.specs.Entries.{entry_of}
use Rattle.fdb_roles.specs.AtBook.{IsResolverAt, IsSequencerAt, IsLogAt, IsShardAt}
use Rattle.fdb_roles.specs.ProxyStages.{AreFindsOn, position_in}

-- A resolver isn't refused its part of the next entry, says the rule's verdicts, has then taken the entry, and found
-- what it finds there by the rule.
abbrev pub ResolverGoesOn : Type 0
ResolverGoesOn =
    (splits : List Point) (book : List Entry) (entry : Entry) (i : ℕ) (old : Resolver) (part : Part)
    → AreEntries (suc (length splits)) 0 (book ++ entry ∷ []) → HorizonsRise 0 (book ++ entry ∷ [])
    → IsResolverAt splits book i old
    → IsPartOf splits (moves_through (seen_of book) entry) (position_in (length book) entry) entry.batch i part
    → (part_fault old part ≡ None)
    × ((verdicts : Verdicts) (new : Resolver) → IsAnswer old part verdicts → resolver.HasTaken old part verdicts new
    → (verdicts.answers ≡ verdicts_on splits i (seen_of book) entry) × IsResolverAt splits (book ++ entry ∷ []) i new
    × AreFindsOn splits i (seen_of book) entry verdicts.conflicts)

-- Owners that are those of the book's moves, and learn the next entry's, are those of the moves with these.
abbrev pub OwnersGoOn : Type 0
OwnersGoOn =
    (book : List Entry) (entry : Entry) (old new : Ownership) → AgreesWith old (seen_of book).moves
    → HasLearnt old entry.version entry.moves new → AgreesWith new (seen_of (book ++ entry ∷ [])).moves

-- A sequencer that accepts a ticket has then accepted the ticket's entry, whatever its batch.
abbrev pub SequencerGoesOn : Type 0
SequencerGoesOn =
    (book : List Entry) (batch : List Transaction) (old : Sequencer) (ticket : Ticket) → IsSequencerAt book old
    → accept_fault old ticket ≡ None → IsSequencerAt (book ++ entry_of ticket batch ∷ []) (accepting old ticket)

-- And the entry goes on from the book's entries, where each of its transactions read below the ticket's version and all
-- that its mutations name is in its write set. Its horizon is no less than that of the last one.
abbrev pub EntriesGoOnByTickets : Type 0
EntriesGoOnByTickets =
    (book : List Entry) (batch : List Transaction) (old : Sequencer) (ticket : Ticket)
    → AreEntries old.resolvers 0 book → IsSequencerAt book old → accept_fault old ticket ≡ None
    → AllByRecursion (λ (t : Transaction). (t.read < ticket.version) × NamesWrites t) batch
    → AreEntries old.resolvers 0 (book ++ entry_of ticket batch ∷ []) × (last_horizon book ≤ ticket.horizon)

-- A log isn't refused its message of the next entry, and has taken the entry with it.
abbrev pub LogGoesOn : Type 0
LogGoesOn =
    (config : Config) (book : List Entry) (entry : Entry) (l : ℕ) (old : Log) (message : LogMsg)
    → AreEntries (suc (length config.resolver_splits)) 0 (book ++ entry ∷ []) → IsLogAt config book l old
    → message
    ≡ log_message config.resolver_splits config.shard_splits config.logs l (length book) (seen_of book) entry
    → (push_fault old message ≡ None)
    × ((new : Log) → logs.HasTaken old message new → IsLogAt config (book ++ entry ∷ []) l new)

-- A shard isn't refused a peek of its tag from its version with the message of the next entry alone, and has applied
-- the entry with it.
abbrev pub ShardGoesOn : Type 0
ShardGoesOn =
    (config : Config) (book : List Entry) (entry : Entry) (s : ℕ) (old : Shard) (peek : Peek)
    → AreEntries (suc (length config.resolver_splits)) 0 (book ++ entry ∷ []) → IsShardAt config book s old
    → peek ≡ record {
      tag = s;
      after = old.version;
      through = entry.version;
      messages = message_for config.resolver_splits (piece config.shard_splits s) (seen_of book) entry ∷ [];
    }
    → (apply_fault old peek ≡ None)
    × ((new : Shard) → HasApplied old peek new → IsShardAt config (book ++ entry ∷ []) s new)

-- A shard isn't refused a peek of its tag from its version with the messages of further entries, through the last one's
-- version, and has applied these entries with it.
abbrev pub ShardGoesOnByMessages : Type 0
ShardGoesOnByMessages =
    (config : Config) (book more : List Entry) (s : ℕ) (old : Shard) (peek : Peek)
    → AreEntries (suc (length config.resolver_splits)) 0 (book ++ more) → IsShardAt config book s old
    → peek ≡ record {
      tag = s;
      after = old.version;
      through = last_version (book ++ more);
      messages = messages_after config.resolver_splits (piece config.shard_splits s) (seen_of book) more;
    }
    → (apply_fault old peek ≡ None)
    × ((new : Shard) → HasApplied old peek new → IsShardAt config (book ++ more) s new)

-- What a log gives of a tag after the version of the last of some first entries is the messages of the entries after
-- these, as many as the limit says, through the version of the last one.
abbrev pub LogGivesMessages : Type 0
LogGivesMessages =
    (config : Config) (book more : List Entry) (l tag limit : ℕ) (log : Log)
    → AreEntries (suc (length config.resolver_splits)) 0 (book ++ more) → IsLogAt config (book ++ more) l log
    → peek_fault log tag (last_version book) ≡ None
    → peek_of log tag (last_version book) limit ≡ record {
      tag = tag;
      after = last_version book;
      through = last_version (book ++ take limit more);
      messages = messages_after config.resolver_splits (piece config.shard_splits tag) (seen_of book)
          (take limit more);
    }

-- A shard isn't refused what a log at a book that begins with the shard's gives of its tag after its version, and has
-- then applied as many entries more as there are messages; the last one's version is that through which the peek goes.
abbrev pub ShardGoesOnByItsLog : Type 0
ShardGoesOnByItsLog =
    (config : Config) (short long : List Entry) (s l limit : ℕ) (old : Shard) (log : Log)
    → ((rest : List Entry) × (long ≡ short ++ rest)) → AreEntries (suc (length config.resolver_splits)) 0 long
    → IsShardAt config short s old → IsLogAt config long l log → peek_fault log s old.version ≡ None
    → let peek = peek_of log s old.version limit in
    let applied = take (length short + length peek.messages) long in
    (apply_fault old peek ≡ None)
    × (length applied ≡ length short + length peek.messages)
    × (peek.through ≡ last_version applied)
    × ((new : Shard) → HasApplied old peek new → IsShardAt config applied s new)
