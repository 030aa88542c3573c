-- What a running database tells of its book.
use Rattle.std.specs.Prelude.{◌≡◌, ◌≤◌, ◌-◌, ℕ, suc, List, length}
use Rattle.fdb_proxy.specs.declared.config.Config.{Config}
use Rattle.fdb_txn.specs.declared.entry.Entry.{Entry}
use Rattle.fdb_txn.specs.book.Book.{last_version}
use Rattle.fdb_txn.specs.book.History.{AreEntries}

-- Some front of the book has come to the committed version, and leaves room for so many entries.
pub record IsOfFront (config : Config) (committed entries_left : ℕ) : Type 0 where
  pub front : List Entry
  pub entries : AreEntries (suc (length config.resolver_splits)) 0 front
  pub reached : committed ≤ last_version front
  pub left : entries_left ≡ config.book - length front
