-- What logs are sent of an entry.
use Rattle.std.specs.Prelude.{◌≡◌, ◌<◌, ℕ, suc, Bool, ◌==◌, List, ◌++◌, map, filter, length}
use Rattle.std.specs.List.{list_any, range_with_len}
use Rattle.fdb_keys.specs.Points.{Point}
use Rattle.fdb_keys.specs.Ranges.{Range}
use Rattle.fdb_mutations.specs.declared.mutation.Mutation.{Mutation}
use Rattle.fdb_txn.specs.declared.entry.Entry.{Entry}
use Rattle.fdb_txn.specs.book.Book.{Seen, seen_of, last_version}
use Rattle.fdb_txn.specs.book.History.{AreEntries}
use Rattle.fdb_txn.specs.rules.Messages.{committed_in, message_for, messages_for, messages_after}
use Rattle.fdb_txn.specs.rules.Splits.{piece}
use Rattle.fdb_log.specs.declared.message.LogMsg.{LogMsg}
use Rattle.fdb_log.specs.declared.message.Tagged.{Tagged}
use Rattle.fdb_log.specs.Messages.{log_of, tag_message, above}
use Rattle.fdb_storage.specs.ShardMaps.{tags_of}

-- a mutation at its place, with its tags
abbrev pub tagged : List Point → ℕ × Mutation → Tagged
tagged shard_splits sent =
    record { place = sent.0; mutation = sent.1; tags = tags_of shard_splits sent.1 }

-- the log, of so many, keeps one of the mutation's tags
abbrev pub is_for_log : (logs log : ℕ) → Tagged → Bool
is_for_log logs log sent = list_any (λ (tag : ℕ). log_of logs tag == log) sent.tags

-- What the resolvers' splits, the shards' splits and the number of logs make of an entry.
module _ (splits shard_splits : List Point) (logs : ℕ) where
  -- the message of entry i for a log: those mutations of its committed transactions of which the log keeps a tag, by
  -- place, and then in the transaction's order
  abbrev pub log_message : (log i : ℕ) → Seen → Entry → LogMsg
  log_message log i before entry =
      record {
        log = log;
        index = i;
        version = entry.version;
        prev = entry.prev;
        body = filter (is_for_log logs log) (map (tagged shard_splits) (committed_in splits before entry));
      }

  -- one for each log
  abbrev pub log_messages : ℕ → Seen → Entry → List LogMsg
  log_messages i before entry = map (λ (log : ℕ). log_message log i before entry) (range_with_len 0 logs)

-- the message of an entry for the log that keeps a tag has for the tag the message of the entry for its shard
abbrev pub LogsAreSentTheMessages : Type 0
LogsAreSentTheMessages =
    (splits shard_splits : List Point) (logs tag i : ℕ) (before : Seen) (entry : Entry)
    → tag < suc (length shard_splits)
    → tag_message tag (log_message splits shard_splits logs (log_of logs tag) i before entry)
    ≡ message_for splits (piece shard_splits tag) before entry

-- Of the messages of a book those above the version of the last of its first entries are those of the other entries.
abbrev pub MessagesAboveAVersion : Type 0
MessagesAboveAVersion =
    (resolvers : ℕ) (splits : List Point) (range : Range) (before more : List Entry)
    → AreEntries resolvers 0 (before ++ more)
    → above (last_version before) (messages_for splits range (before ++ more))
    ≡ messages_after splits range (seen_of before) more
