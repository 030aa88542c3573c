-- What is known of each transaction of a book: a session asked for it, whose transcript is one that the database
-- allows, and whose reads were answered as on the run.
use Rattle.std.specs.Prelude.{◌≡◌, ◌≤◌, ℕ, List}
use Rattle.std.specs.List.{AllByRecursion}
use Rattle.fdb_keys.specs.Points.{Point}
use Rattle.fdb_mutations.specs.Maps.{Map}
use Rattle.fdb_txn.specs.declared.entry.Entry.{Entry}
use Rattle.fdb_txn.specs.book.Book.{Place, seen_of, last_version}
use Rattle.fdb_txn.specs.book.Transactions.{Transaction}
use Rattle.fdb_txn.specs.rules.SerialMap.{serial_map_at}
use Rattle.fdb_proxy.specs.CommitProxies.{CommitProxy}
use Rattle.fdb_client.specs.declared.program.Transcript.{Transcript}
use Rattle.fdb_client.specs.Programs.{commit_request_of}
use Rattle.fdb_roles.specs.Spots.{AnsweredOn}

-- The transaction is what an allowed transcript asks to commit. The front reaches its read version, and it was answered
-- as on the serial map of the front there.
pub record IsAsked (allows : Transcript → Type 0) (splits : List Point) (front : List Entry) (transaction : Transaction)
    : Type 0 where
  pub transcript : Transcript
  pub allowed : allows transcript
  pub asked : transaction ≡ commit_request_of transcript
  pub reached : transcript.read_version ≤ last_version front
  pub answered : AnsweredOn (serial_map_at splits transcript.read_version (seen_of front).places) transcript

-- each of them
abbrev pub AreAsked : (Transcript → Type 0) → List Point → List Entry → List Transaction → Type 0
AreAsked allows splits front transactions = AllByRecursion (IsAsked allows splits front) transactions

-- each transaction of the front
abbrev pub EachAsked : (Transcript → Type 0) → List Point → List Entry → Type 0
EachAsked allows splits front =
    AllByRecursion (λ (place : Place). IsAsked allows splits front place.transaction) (seen_of front).places

-- the property holds of the serial map of the front at every version
abbrev pub HoldsOnRun : (Map → Type 0) → List Point → List Entry → Type 0
HoldsOnRun holds splits front = (v : ℕ) → ∥ holds (serial_map_at splits v (seen_of front).places) ∥₁

-- a transaction that is asked for, with what its session has seen of the book
pub record AskedAtFront : Type 0 where
  pub front : List Entry
  pub transaction : Transaction

-- transactions of a batch, with what some session has seen that asked for one of them
pub record BatchAtFront : Type 0 where
  pub front : List Entry
  pub batch : List Transaction

-- each request that waits at a commit proxy, or is in its batch in flight, is asked for at the front
abbrev pub HasAsked : (Transcript → Type 0) → List Point → List Entry → CommitProxy → Type 0
HasAsked allows splits front proxy =
    ∥ AreAsked allows splits front proxy.waiting × AreAsked allows splits front proxy.batch ∥₁
