-- What a receipt of a transaction that wrote something tells of the run.
use Rattle.std.specs.Prelude.{◌≡◌, ℕ, List, [], ◌∷◌, Some}
use Rattle.std.specs.FinMap.{get}
use Rattle.fdb_keys.specs.Points.{Point}
use Rattle.fdb_mutations.specs.declared.mutation.Mutation.TheVariants.{Set}
use Rattle.fdb_mutations.specs.Mutations.{effects}
use Rattle.fdb_txn.specs.declared.spot.Spot.TheVariants as spot
use Rattle.fdb_txn.specs.book.Book.{Place}
use Rattle.fdb_txn.specs.book.Places.{place_at}
use Rattle.fdb_txn.specs.rules.SerialMap.{serial_map}
use Rattle.fdb_txn.specs.rules.Stamped.{stamped_by}
use Rattle.fdb_client.specs.declared.program.Op.TheVariants.{Write}
use Rattle.fdb_client.specs.declared.program.Reply.TheVariants.{Done}
use Rattle.fdb_client.specs.Programs.{program, mutations_of}
use Rattle.fdb_roles.specs.Spots.{AnsweredOn}
use Rattle.fdb_sections.specs.Receipts.{ReceiptAtFront, IsReceipt}

-- There is a place at the spot. The reads were answered on the run's map right before it. The map right after it is
-- what the mutations of the transcript leave of that one, stamped by the version and the place; and who only set a key
-- finds the value there.
pub record TellsTheMap (splits : List Point) (receipt : ReceiptAtFront) (entry place version : ℕ) : Type 0 where
  pub there : Place × List Place
  pub there_is : place_at receipt.front entry place ≡ Some there
  pub answered : AnsweredOn (serial_map splits there.1) receipt.transcript
  pub after : serial_map splits (there.0 ∷ there.1)
      ≡ effects (serial_map splits there.1)
      (stamped_by version there.0.number (mutations_of (program receipt.transcript.ops)))
  pub set : (key value : List ℕ) → receipt.transcript.ops ≡ (Write (Set key value), Done) ∷ []
      → get (serial_map splits (there.0 ∷ there.1)) key ≡ Some value

-- each receipt with a spot in an entry does
abbrev pub ReceiptsTellTheMap : Type 0
ReceiptsTellTheMap =
    (splits : List Point) (receipt : ReceiptAtFront) (entry place version : ℕ) → IsReceipt splits receipt
    → receipt.spot ≡ spot.Entry entry place version → TellsTheMap splits receipt entry place version
