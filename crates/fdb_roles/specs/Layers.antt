-- Layers: transactions of which each keeps a property of the map, and books of such transactions.
use Rattle.std.specs.Prelude.{◌≡◌, ℕ, suc, List, length}
use Rattle.std.specs.List.{AllByRecursion}
use Rattle.fdb_keys.specs.Points.{Point}
use Rattle.fdb_mutations.specs.Maps.{Map}
use Rattle.fdb_mutations.specs.Mutations.{effects}
use Rattle.fdb_txn.specs.declared.entry.Entry.{Entry}
use Rattle.fdb_txn.specs.book.Book.{Place, seen_of}
use Rattle.fdb_txn.specs.book.History.{IsBook, IsSealed}
use Rattle.fdb_txn.specs.rules.SerialMap.{serial_map_at}
use Rattle.fdb_txn.specs.rules.Stamped.{stamped_by}
use Rattle.fdb_client.specs.declared.program.Transcript.{Transcript}
use Rattle.fdb_client.specs.Programs.{commit_request_of}
use Rattle.fdb_roles.specs.Spots.{AnsweredOn}

-- Each transaction that is allowed, and was answered as on a map that has the property, leaves a map that has it,
-- whichever version and place its values are stamped with.
abbrev pub Keeps : (Transcript → Type 0) → (Map → Type 0) → Type 0
Keeps allows holds =
    (map : Map) (transcript : Transcript) (version place : ℕ)
    → allows transcript → AnsweredOn map transcript → holds map
    → holds (effects map (stamped_by version place (commit_request_of transcript).mutations))

-- the place's transaction was asked for by an allowed transcript, which was answered as on the serial map at its read
-- version
pub record IsAskedBy (allows : Transcript → Type 0) (splits : List Point) (places : List Place) (place : Place) : Type 0
  where
    pub transcript : Transcript
    pub allowed : allows transcript
    pub asked : place.transaction ≡ commit_request_of transcript
    pub answered : AnsweredOn (serial_map_at splits transcript.read_version places) transcript

-- a book of sealed transactions that were all asked for so
pub record IsBookOf (allows : Transcript → Type 0) (splits : List Point) (book : List Entry) : Type 0 where
  pub book_is : IsBook (suc (length splits)) book
  pub each_sealed : AllByRecursion IsSealed book
  pub each_asked : AllByRecursion (IsAskedBy allows splits (seen_of book).places) (seen_of book).places

-- of such a book the serial map has the property at every version
abbrev pub BookKeeps : (Transcript → Type 0) → (Map → Type 0) → Type 0
BookKeeps allows holds =
    (splits : List Point) (book : List Entry) → IsBookOf allows splits book → (v : ℕ)
    → holds (serial_map_at splits v (seen_of book).places)
