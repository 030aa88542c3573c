-- What is carried over, worked: two pairs that arrive, and one that is lost.
use Rattle.std.specs.Prelude.{false, List, [], ◌∷◌, codes}
use Rattle.fdb_mutations.specs.Pairs.{pairs_in}
use Rattle.fdb_txn.specs.declared.entry.Entry.{Entry}
use Rattle.fdb_proxy.specs.declared.config.Config.{Config}
use Rattle.fdb_sections.specs.Records.{RecordAtFront, every_key}
use Rattle.fdb_sections.specs.ShardViews.{run_of}
use Rattle.fdb_layers.specs.QueueBooksExamples.{entry_at}
use Rattle.fdb_layers.specs.Rolling.{setting, IsCarriedOver}

-- the closed database has one resolver, and the next one has two
abbrev pub closed_config : Config
closed_config = record { proxies = 1; logs = 1; resolver_splits = []; shard_splits = []; book = 2 }

abbrev pub next_config : Config
next_config = record { proxies = 1; logs = 1; resolver_splits = codes "b" ∷ []; shard_splits = []; book = 9 }

-- a is set to 1, and then b to 2
abbrev pub closed_book : List Entry
closed_book =
    entry_at 100 0 0 (setting (codes "a", 1 ∷ []) ∷ []) ∷ entry_at 200 100 1 (setting (codes "b", 2 ∷ []) ∷ []) ∷ []

-- the record of the closed database
abbrev pub closed_record : RecordAtFront
closed_record = record {
  front = closed_book;
  committed = 200;
  pairs = pairs_in (run_of closed_config 200 closed_book) every_key false;
}

-- both are set at once
abbrev pub next_book : List Entry
next_book = entry_at 50 0 0 (setting (codes "a", 1 ∷ []) ∷ setting (codes "b", 2 ∷ []) ∷ []) ∷ []

-- b is forgotten
abbrev pub losing_book : List Entry
losing_book = entry_at 50 0 0 (setting (codes "a", 1 ∷ []) ∷ []) ∷ []

abbrev pub BothArrive : Type 0
BothArrive = IsCarriedOver closed_config closed_record next_config 50 next_book

-- before its first entry the next database has nothing yet
abbrev pub EarlyIsNotThere : Type 0
EarlyIsNotThere = IsCarriedOver closed_config closed_record next_config 49 next_book → ⊥

abbrev pub LostIsNotThere : Type 0
LostIsNotThere = IsCarriedOver closed_config closed_record next_config 50 losing_book → ⊥
