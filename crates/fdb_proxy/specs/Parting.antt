-- What each resolver is sent of a batch.
use Rattle.std.specs.Prelude.{◌≡◌, ◌⊎◌, ℕ, suc, true, false, List, [], ◌∷◌, length, Some, slice_get}
use Rattle.fdb_keys.specs.Points.{Point}
use Rattle.fdb_txn.specs.book.Book.{DatedMove, Head, head_at, placed}
use Rattle.fdb_txn.specs.book.Transactions.{Transaction}
use Rattle.fdb_txn.specs.rules.Owners.{is_asked}
use Rattle.fdb_resolver.specs.declared.part.Item.{Item}
use Rattle.fdb_resolver.specs.declared.part.Part.{Part}
use Rattle.fdb_resolver.specs.RuleLaws.{IsItemOf}
use Rattle.fdb_proxy.specs.declared.position.Position.{Position}

-- What resolver i is sent of the transactions of a batch, from place p on, of an entry with this head: an item for each
-- place that it is asked about, with its part of the reads and of the writes, and none for any other.
module _ (splits : List Point) (head : Head) (i : ℕ) where
  abbrev pub AreItems : ℕ → List Transaction → List Item → Type 0
  AreItems p [] items = items ≡ []
  AreItems p (t ∷ ts) items =
      ((is_asked splits i (placed head p t) ≡ true)
      × ((item : Item) × (rest : List Item) × (items ≡ item ∷ rest) × (item.place ≡ p)
      × IsItemOf splits i (placed head p t) item × AreItems (suc p) ts rest))
      ⊎ ((is_asked splits i (placed head p t) ≡ false) × AreItems (suc p) ts items)

-- the part of resolver i of the batch at a position
pub record IsPartOf (splits : List Point) (moves : List DatedMove)
    (position : Position) (batch : List Transaction) (i : ℕ)
    (part : Part) : Type 0 where
  pub resolver : part.resolver ≡ i
  pub index : part.index ≡ position.index
  pub version : part.version ≡ position.version
  pub prev : part.prev ≡ position.prev
  pub horizon : part.horizon ≡ position.horizon
  pub items : AreItems splits (head_at position.version position.horizon moves) i 0 batch part.items

-- one part for each resolver
pub record AreParts (splits : List Point) (moves : List DatedMove) (position : Position) (batch : List Transaction)
    (parts : List Part) : Type 0 where
  pub count : length parts ≡ suc (length splits)
  pub each : (i : ℕ) (part : Part) → slice_get parts i ≡ Some part → IsPartOf splits moves position batch i part
