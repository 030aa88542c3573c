-- What a session is given for a commit, and what it is told on the way.
use Rattle.std.specs.Prelude.{◌≡◌, ◌≤◌, ◌-◌, ◌^◌, ℕ, suc, false, List, length, Option, Some, None, slice_get}
use Rattle.std.specs.Prelude.{if◌then◌else◌}
use Rattle.fdb_keys.specs.Points.{Point}
use Rattle.fdb_keys.specs.Ranges.{Range, in_set}
use Rattle.fdb_keys.specs.declared.refusal.Refusal.{Refusal}
use Rattle.fdb_keys.specs.declared.refusal.Refusal.TheVariants.{NotCommitted, TransactionTooOld}
use Rattle.fdb_txn.specs.declared.entry.Entry.{Entry}
use Rattle.fdb_txn.specs.declared.spot.Spot.{Spot}
use Rattle.fdb_txn.specs.declared.spot.Spot.TheVariants as spot
use Rattle.fdb_txn.specs.book.Book.{Place, last_version}
use Rattle.fdb_txn.specs.book.Places.{place_at}
use Rattle.fdb_txn.specs.book.Transactions.{Transaction}
use Rattle.fdb_txn.specs.rules.Admission.{is_fresh, committed}
use Rattle.fdb_proxy.specs.declared.outcome.Outcome.{Outcome}
use Rattle.fdb_proxy.specs.declared.outcome.Outcome.TheVariants.{Commit, Conflict, Old}
use Rattle.fdb_proxy.specs.Verdicts.{conflict_at}
use Rattle.fdb_client.specs.Programs.{commit_request_of}
use Rattle.fdb_client.specs.declared.program.Transcript.{Transcript}
use Rattle.fdb_roles.specs.Outcomes.{IsByRule}
use Rattle.fdb_roles.specs.Spots.{IsSerializedAtSpot, spot_version, IsAfterVersion}

-- a transcript with its spot in the book that a front shows
pub record ReceiptAtFront : Type 0 where
  pub front : List Entry
  pub spot : Spot
  pub transcript : Transcript

-- The transaction is serialized at its spot, whose version the front has come to. A spot in an entry is of a version
-- above the read version, a read-only one isn't below it.
pub record IsReceipt (splits : List Point) (receipt : ReceiptAtFront) : Type 0 where
  pub serialized : IsSerializedAtSpot splits receipt.front receipt.transcript receipt.spot
  pub reached : spot_version receipt.spot ≤ last_version receipt.front
  pub after : IsAfterVersion receipt.transcript.read_version receipt.spot

-- a granted version with a front of who grants it
pub record GrantAtFront : Type 0 where
  pub front : List Entry
  pub committed : ℕ

-- what became of a place of the front's last entry, and the points at which it conflicts
pub record OutcomeAtFront : Type 0 where
  pub front : List Entry
  pub place : ℕ
  pub outcome : Outcome
  pub conflict : List Range

-- there is such a place, and the rule says so of it: an old one has no point
pub record IsOutcome (splits : List Point) (told : OutcomeAtFront) : Type 0 where
  pub last : ℕ
  pub count : length told.front ≡ suc last
  pub there : Place × List Place
  pub there_is : place_at told.front last told.place ≡ Some there
  pub by_rule : IsByRule splits there told.place told.outcome
  pub conflict : (x : Point) → in_set told.conflict x ≡ conflict_at splits (Some there) x

-- the receipt of a transaction that wrote nothing, at its read version on a front
abbrev pub read_only_receipt : List Entry → Transcript → ReceiptAtFront
read_only_receipt front transcript =
    record { front = front; spot = spot.ReadOnly transcript.read_version; transcript = transcript }

-- what stands at a place of an entry, if there are such
abbrev pub transaction_in : Option Entry → ℕ → Option Transaction
transaction_in None p = None
transaction_in (Some entry) p = slice_get entry.batch p

-- what stands at the place that a session is told of
abbrev pub transaction_told : OutcomeAtFront → Option Transaction
transaction_told told = transaction_in (slice_get told.front (length told.front - 1)) told.place

-- That is just what the transcript asks to commit. A spot has 32 bits for the number of the entry.
abbrev pub IsToldOf : OutcomeAtFront → Transcript → Type 0
IsToldOf told transcript =
    (transaction_told told ≡ Some (commit_request_of transcript)) × (length told.front ≤ 2 ^ 32)

-- the spot of the place that a session is told of
abbrev pub spot_told : OutcomeAtFront → Spot
spot_told told = spot.Entry (length told.front - 1) told.place (last_version told.front)

-- why a transaction has no receipt, by what became of it
abbrev pub settle_fault : Outcome → Option Refusal
settle_fault (Commit version place) = None
settle_fault Conflict = Some NotCommitted
settle_fault Old = Some TransactionTooOld

-- The transaction is at a place of the book, and isn't committed there: by the rule it conflicts there, at just the
-- points of the set, or is too old.
pub record IsTurnedDown (splits : List Point) (front : List Entry) (transcript : Transcript) (why : Refusal)
    (conflict : List Range) : Type 0 where
  pub entry : ℕ
  pub place : ℕ
  pub there : Place × List Place
  pub there_is : place_at front entry place ≡ Some there
  pub asked : there.0.transaction ≡ commit_request_of transcript
  pub uncommitted : committed splits there.1 there.0 ≡ false
  pub why_is : why ≡ (if is_fresh there.0 then NotCommitted else TransactionTooOld)
  pub conflicts : (x : Point) → in_set conflict x ≡ conflict_at splits (Some there) x
