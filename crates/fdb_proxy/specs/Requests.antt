-- The requests of a commit proxy.
use Rattle.std.specs.Prelude.{◌≡◌, ⊤, ℕ, Bool, false, List, [], ◌∷◌, Option, position}
use Rattle.std.specs.List.{list_any}
use Rattle.fdb_txn.specs.Equality.{txn_id_eq}
use Rattle.fdb_txn.specs.book.Transactions.{Transaction}
use Rattle.fdb_txn.specs.declared.txn_id.TxnId.{TxnId}

pub record Requests : Type 0 where
  -- those of the batch in flight, by place
  pub batch : List Transaction
  -- those that wait for a batch, in order
  pub waiting : List Transaction
  -- how many more may be submitted without memory
  pub spare : ℕ

-- these are in flight, and these wait
pub record Holds (requests : Requests) (batch waiting : List Transaction) : Type 0 where
  pub in_flight : requests.batch ≡ batch
  pub in_line : requests.waiting ≡ waiting

-- the first of the transactions with the id
abbrev pub place_of : TxnId → List Transaction → Option ℕ
place_of id transactions = position (λ (t : Transaction). txn_id_eq t.id id) transactions

-- whether one of the transactions has the id
abbrev pub is_named : List Transaction → TxnId → Bool
is_named transactions id = list_any (λ (t : Transaction). txn_id_eq t.id id) transactions

-- no two of the transactions have the same id
unfoldable pub AreNamedApart : List Transaction → Type 0
AreNamedApart [] = ⊤
AreNamedApart (t ∷ others) = (is_named others t.id ≡ false) × AreNamedApart others
