-- A front meets the definition of a book.
use Rattle.std.specs.Prelude.{ℕ, List}
use Rattle.std.specs.List.{AllByRecursion}
use Rattle.fdb_txn.specs.declared.entry.Entry.{Entry}
use Rattle.fdb_txn.specs.book.History.{MovesExist, IsBook, AreEntries}
use Rattle.fdb_book.specs.Fronts.{IsLinkedBook}

-- where its moves go to resolvers that exist, what a front shows is a book, and a list of entries after version 0
abbrev pub FrontsAreBooks : Type 0
FrontsAreBooks =
    (resolvers : ℕ) (book : List Entry) → IsLinkedBook book → AllByRecursion (MovesExist resolvers) book
    → IsBook resolvers book × AreEntries resolvers 0 book
