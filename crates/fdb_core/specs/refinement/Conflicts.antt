-- Where the conflict set of a transaction is found.
use Rattle.std.specs.Prelude.{◌≡◌, ℕ, true, List, Option, Some, None, slice_get}
use Rattle.fdb_keys.specs.Points.{Point}
use Rattle.fdb_keys.specs.Ranges.{Range, in_set}
use Rattle.fdb_txn.specs.declared.entry.Entry.{Entry}
use Rattle.fdb_txn.specs.declared.txn_id.TxnId.{TxnId}
use Rattle.fdb_txn.specs.book.Transactions.{Transaction}

-- the set has some point
abbrev pub HasPoint : List Range → Type 0
HasPoint set = (x : Point) × (in_set set x ≡ true)

-- the transaction with the id is at place p of the batch, and the set of that place has some point
pub record IsSetAt (batch : List Transaction) (conflicts : List (List Range)) (id : TxnId) (p : ℕ) (set : List Range)
    : Type 0 where
  pub transaction : Transaction
  pub there : slice_get batch p ≡ Some transaction
  pub own : transaction.id ≡ id
  pub kept : slice_get conflicts p ≡ Some set
  pub points : HasPoint set

-- what is found of a batch: such a set of some place, or none where no place has one
abbrev pub IsFoundIn : List Transaction → List (List Range) → TxnId → Option (List Range) → Type 0
IsFoundIn batch conflicts id None = (p : ℕ) (set : List Range) → IsSetAt batch conflicts id p set → ⊥
IsFoundIn batch conflicts id (Some set) = (p : ℕ) × IsSetAt batch conflicts id p set

-- such a set is at place p of entry n of the book
pub record IsSetOf (book : List Entry) (conflicts : List (List (List Range))) (id : TxnId) (n p : ℕ)
    (set : List Range) : Type 0 where
  pub entry : Entry
  pub there : slice_get book n ≡ Some entry
  pub all : List (List Range)
  pub kept : slice_get conflicts n ≡ Some all
  pub set_at : IsSetAt entry.batch all id p set

-- what is found of the book: such a set of some place, or none where no place has one
abbrev pub IsFound : List Entry → List (List (List Range)) → TxnId → Option (List Range) → Type 0
IsFound book conflicts id None = (n p : ℕ) (set : List Range) → IsSetOf book conflicts id n p set → ⊥
IsFound book conflicts id (Some set) = (n : ℕ) × (p : ℕ) × IsSetOf book conflicts id n p set
