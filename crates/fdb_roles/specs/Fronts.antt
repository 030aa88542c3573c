-- What a front of a book, its first entries, tells of the book.
use Rattle.std.specs.Prelude.{◌≡◌, ◌≤◌, ℕ, List, ◌++◌}
use Rattle.fdb_keys.specs.Points.{Point}
use Rattle.fdb_txn.specs.declared.entry.Entry.{Entry}
use Rattle.fdb_txn.specs.book.Book.{seen_of, last_version}
use Rattle.fdb_txn.specs.book.History.{AreLinked}
use Rattle.fdb_txn.specs.rules.SerialMap.{serial_map_at}

-- Two fronts of one book, of which the longer one begins with the shorter one, have one serial map at each version that
-- both reach.
abbrev pub FrontsHaveOneRun : Type 0
FrontsHaveOneRun =
    (splits : List Point) (short long : List Entry) → ((rest : List Entry) × (long ≡ short ++ rest)) → AreLinked 0 long
    → (v : ℕ) → v ≤ last_version short
    → serial_map_at splits v (seen_of short).places ≡ serial_map_at splits v (seen_of long).places
