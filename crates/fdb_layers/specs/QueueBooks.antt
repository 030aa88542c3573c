-- What becomes of the items of a queue, read off the places of a book.
use Rattle.std.specs.Prelude.{◌≡◌, ◌++◌, ◌⊎◌, ℕ, true, List, [], ◌∷◌, length, Some}
use Rattle.std.specs.FinMap.{get}
use Rattle.fdb_keys.specs.Points.{Point}
use Rattle.fdb_mutations.specs.Maps.{Map}
use Rattle.fdb_mutations.specs.Stamps.{stamp_size}
use Rattle.fdb_mutations.specs.declared.mutation.Mutation.TheVariants.{Clear, Stamped}
use Rattle.fdb_txn.specs.declared.entry.Entry.{Entry}
use Rattle.fdb_txn.specs.book.Book.{Place, seen_of}
use Rattle.fdb_txn.specs.rules.Admission.{committed}
use Rattle.fdb_txn.specs.rules.SerialMap.{serial_map}
use Rattle.fdb_roles.specs.Layers.{IsBookOf}
use Rattle.fdb_layers.specs.Queue.{item_key, unstamped, IsOfQueue}

-- the place pushes the item under the key: it is committed, and stamps the item under the key of its transaction's id
pub record PushesAt (splits : List Point) (earlier : List Place) (place : Place) (key : Point) (item : List ℕ) : Type 0
  where
    pub commits : committed splits earlier place ≡ true
    pub key_is : key ≡ item_key place.transaction.id
    pub pushes : place.transaction.mutations ≡ Stamped key (unstamped item) 0 ∷ []

-- the place takes what stands under the key: it is committed, and clears the key
pub record TakesAt (splits : List Point) (earlier : List Place) (place : Place) (key : Point) : Type 0 where
  pub commits : committed splits earlier place ≡ true
  pub takes : place.transaction.mutations ≡ Clear key ∷ []

-- one of the places, of which the newest is the first, pushed the item under the key
abbrev pub WasPushed : List Point → List Place → Point → List ℕ → Type 0
WasPushed splits [] key item = ⊥
WasPushed splits (place ∷ earlier) key item =
    PushesAt splits earlier place key item ⊎ WasPushed splits earlier key item

-- one of them took what stood under the key
abbrev pub WasTaken : List Point → List Place → Point → Type 0
WasTaken splits [] key = ⊥
WasTaken splits (place ∷ earlier) key = TakesAt splits earlier place key ⊎ WasTaken splits earlier key

-- the item stands under the key, behind a stamp
abbrev pub StandsUnder : Map → Point → List ℕ → Type 0
StandsUnder map key item = (stamp : List ℕ) × (length stamp ≡ stamp_size) × (get map key ≡ Some (stamp ++ item))

-- after these places the item waits under the key: it was pushed, nobody took it, and it stands there
pub record IsWaiting (splits : List Point) (places : List Place) (key : Point) (item : List ℕ) : Type 0 where
  pub pushed : WasPushed splits places key item
  pub untaken : WasTaken splits places key → ⊥
  pub stands : StandsUnder (serial_map splits places) key item

-- A book keeps the items of its queue.
pub record KeepsItems (splits : List Point) (book : List Entry) : Type 0 where
  -- What a place takes waited right before it: it was pushed, and no place before took it. So no item is handed out
  -- twice, and none that nobody pushed.
  pub once : (newer : List Place) (place : Place) (earlier : List Place) (key : Point)
      → (seen_of book).places ≡ newer ++ place ∷ earlier → TakesAt splits earlier place key
      → (item : List ℕ) × IsWaiting splits earlier key item
  -- What was pushed was taken, or waits at the end of the book.
  pub kept : (key : Point) (item : List ℕ) → WasPushed splits (seen_of book).places key item
      → WasTaken splits (seen_of book).places key ⊎ IsWaiting splits (seen_of book).places key item
  -- No two items are pushed under one key.
  pub keys : (newer : List Place) (place : Place) (earlier : List Place) (key : Point) (item other : List ℕ)
      → (seen_of book).places ≡ newer ++ place ∷ earlier → PushesAt splits earlier place key item
      → WasPushed splits earlier key other → ⊥

-- each book of the queue's transactions does
abbrev pub QueueBooksKeepTheirItems : Type 0
QueueBooksKeepTheirItems =
    (splits : List Point) (book : List Entry) → IsBookOf IsOfQueue splits book → KeepsItems splits book
