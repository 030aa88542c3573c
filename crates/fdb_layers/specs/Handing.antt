-- What the receipt of a pop tells of the item that it hands out.
use Rattle.std.specs.Prelude.{◌≡◌, ◌++◌, ⊤, ℕ, List, [], ◌∷◌, Option, Some, None}
use Rattle.fdb_keys.specs.Points.{Point}
use Rattle.fdb_txn.specs.book.Book.{Place, seen_of}
use Rattle.fdb_txn.specs.declared.spot.Spot.TheVariants as spot
use Rattle.fdb_client.specs.declared.program.Op.{Op}
use Rattle.fdb_client.specs.declared.program.Reply.{Reply}
use Rattle.fdb_roles.specs.Layers.{IsBookOf}
use Rattle.fdb_sections.specs.Receipts.{ReceiptAtFront, IsReceipt}
use Rattle.fdb_layers.specs.Queue.{pushing, IsOfQueue, PopsItem}
use Rattle.fdb_layers.specs.QueueBooks.{IsWaiting, TakesAt}
use Rattle.fdb_layers.specs.QueueBooksExamples.{clearing_it, first_of, taken}

-- The transaction of the receipt hands the item out: it stands at a place of the book that its session has seen, takes
-- a key there, and the item waited under that key right before.
pub record HandsOut (splits : List Point) (receipt : ReceiptAtFront) (item : List ℕ) : Type 0 where
  pub newer : List Place
  pub place : Place
  pub earlier : List Place
  pub key : Point
  pub in_book : (seen_of receipt.front).places ≡ newer ++ place ∷ earlier
  pub own : place.transaction.id ≡ receipt.transcript.id
  pub takes : TakesAt splits earlier place key
  pub waited : IsWaiting splits earlier key item

-- the same of an item, if there is one
abbrev pub HandsOutIfAny : List Point → ReceiptAtFront → Option (List ℕ) → Type 0
HandsOutIfAny splits receipt None = ⊤
HandsOutIfAny splits receipt (Some item) = ∥ HandsOut splits receipt item ∥₁

-- each receipt of a pop hands out the item that it popped
abbrev pub ReceiptsHandOut : Type 0
ReceiptsHandOut =
    (splits : List Point) (receipt : ReceiptAtFront) (item : List ℕ) → IsReceipt splits receipt
    → IsBookOf IsOfQueue splits receipt.front → PopsItem receipt.transcript (Some item)
    → HandsOut splits receipt item

-- of the book in which session 0 pushes 7 and session 1 takes it: what a session did at the entry of this number
abbrev pub receipt_of : ℕ → ℕ → ℕ → List (Op × Reply) → ReceiptAtFront
receipt_of session entry version ops = record {
  front = taken;
  spot = spot.Entry entry 0 version;
  transcript = record { id = first_of session; read_version = 0; ops = ops };
}

-- session 1 is handed 7, and no 8; and session 0 is handed nothing
pub record WorkedHanding : Type 0 where
  pub handed : HandsOut [] (receipt_of 1 1 200 clearing_it) (7 ∷ [])
  pub no_other : HandsOut [] (receipt_of 1 1 200 clearing_it) (8 ∷ []) → ⊥
  pub none_pushed : (item : List ℕ) → HandsOut [] (receipt_of 0 0 100 (pushing (first_of 0) (7 ∷ []))) item → ⊥
