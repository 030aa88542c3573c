-- What stands at no place of a book.
use Rattle.std.specs.Prelude.{◌≡◌, List}
use Rattle.std.specs.List.{AllByRecursion}
use Rattle.fdb_txn.specs.declared.entry.Entry.{Entry}
use Rattle.fdb_txn.specs.book.Transactions.{Transaction}

-- none of them is the transaction
abbrev pub IsNotAmong : Transaction → List Transaction → Type 0
IsNotAmong t batch = AllByRecursion (λ (other : Transaction). other ≡ t → ⊥) batch

-- no entry of the book has the transaction
abbrev pub IsNowhere : Transaction → List Entry → Type 0
IsNowhere t book = AllByRecursion (λ (entry : Entry). IsNotAmong t entry.batch) book
