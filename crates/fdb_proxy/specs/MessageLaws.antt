-- What logs are sent of an entry, once the rule over the book decides it.
use Rattle.std.specs.Prelude.{◌≡◌, ℕ, Bool, List}
use Rattle.fdb_keys.specs.Points.{Point}
use Rattle.fdb_txn.specs.declared.entry.Entry.{Entry}
use Rattle.fdb_txn.specs.book.Book.{Seen}
use Rattle.fdb_storage.specs.LogMessages.{log_messages}
use Rattle.fdb_proxy.specs.Logging.{answers_by, messages_by}
use Rattle.fdb_proxy.specs.Verdicts.{outcomes_on}

-- Once the rule's outcomes of an entry are decided, each log is sent just the mutations of the entry's committed
-- transactions of which it keeps a tag.
abbrev pub MessagesHoldTheCommitted : Type 0
MessagesHoldTheCommitted =
    (splits shard_splits : List Point) (logs i : ℕ) (before : Seen) (entry : Entry) (acknowledged : List Bool)
    → messages_by shard_splits logs entry.batch (record {
      position = record { index = i; version = entry.version; prev = entry.prev; horizon = entry.horizon };
      answers = answers_by entry.batch (outcomes_on splits before entry);
      acknowledged = acknowledged;
    })
    ≡ log_messages splits shard_splits logs i before entry
