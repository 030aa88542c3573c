-- How often the id of a transaction is in a book.
use Rattle.std.specs.Prelude.{◌≤◌, ℕ, Bool, ◌&&◌, ◌==◌, List, count_by, sum_by}
use Rattle.fdb_txn.specs.declared.entry.Entry.{Entry}
use Rattle.fdb_txn.specs.declared.txn_id.TxnId.{TxnId}
use Rattle.fdb_txn.specs.book.Transactions.{Transaction}

-- the ids are the same
abbrev pub same_id : TxnId → TxnId → Bool
same_id id other = (other.session == id.session) && (other.number == id.number)

-- how many transactions of the list have the id
abbrev pub times_with_id : TxnId → List Transaction → ℕ
times_with_id id transactions = count_by (λ (t : Transaction). same_id id t.id) transactions

-- how many places of the book are of a transaction with the id
abbrev pub times_in_book : TxnId → List Entry → ℕ
times_in_book id book = sum_by (λ (entry : Entry). times_with_id id entry.batch) book

-- each id is that of at most one place
abbrev pub NoIdTwice : List Entry → Type 0
NoIdTwice book = (id : TxnId) → times_in_book id book ≤ 1
