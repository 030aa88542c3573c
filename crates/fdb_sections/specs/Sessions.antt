-- What a session owns: what it has seen of the book, its mark, and its open transaction.
use Rattle.std.specs.Prelude.{◌≡◌, ◌<◌, ◌≤◌, ◌==◌, ◌⊎◌, ℕ, suc, max, nat_lt, List, length, Option, Some, None, IfSome}
use Rattle.std.specs.Prelude.{[], if◌then◌else◌, Result, Ok, Err}
use Rattle.fdb_keys.specs.Points.{Point}
use Rattle.fdb_keys.specs.declared.refusal.Refusal.{Refusal}
use Rattle.fdb_keys.specs.declared.refusal.Refusal.TheVariants.{Exhausted, CommitUnknownResult}
use Rattle.fdb_keys.specs.declared.refusal.Refused.{Refused}
use Rattle.fdb_txn.specs.declared.entry.Entry.{Entry}
use Rattle.fdb_txn.specs.declared.spot.Spot.{Spot}
use Rattle.fdb_txn.specs.book.Book.{seen_of, last_version}
use Rattle.fdb_txn.specs.rules.SerialMap.{serial_map_at}
use Rattle.fdb_client.specs.declared.program.Transcript.{Transcript}
use Rattle.fdb_roles.specs.Spots.{AnsweredOn, spot_version}
use Rattle.fdb_sections.specs.Receipts.{GrantAtFront, ReceiptAtFront, OutcomeAtFront}
use Rattle.fdb_sections.specs.Receipts.{IsToldOf, spot_told, settle_fault}

-- the open transaction is seen as its transcript
pub record Session : Type 0 where
  pub number : ℕ
  pub next_number : ℕ
  pub front : List Entry
  pub mark : ℕ
  pub current : Option Transcript

-- An open transaction is of the session and of a number below the next one, the front reaches its read version, and its
-- ordinary reads were answered as on the serial map of the front at that version.
pub record IsOpenAt (splits : List Point) (number next_number : ℕ) (front : List Entry) (transcript : Transcript)
    : Type 0 where
  pub of_session : transcript.id.session ≡ number
  pub numbered : transcript.id.number < next_number
  pub reached : transcript.read_version ≤ last_version front
  pub answered : AnsweredOn (serial_map_at splits transcript.read_version (seen_of front).places) transcript

-- the front reaches the mark, and an open transaction is open there
abbrev pub IsSession : List Point → Session → Type 0
IsSession splits it =
    (it.mark ≤ last_version it.front) × IfSome it.current (IsOpenAt splits it.number it.next_number it.front)

-- of two fronts of a book the longer one
abbrev pub longer : List Entry → List Entry → List Entry
longer own theirs = if nat_lt (length own) (length theirs) then theirs else own

-- a number is used once
abbrev pub begin_fault : Session → Option Refusal
begin_fault it = if it.next_number == 18_446_744_073_709_551_615 then Some Exhausted else None

-- A transaction without operations is open, at the greater of the granted version and the mark. Another one that was
-- open is abandoned.
abbrev pub beginning : Session → GrantAtFront → Session
beginning it granted = record it {
  next_number = suc it.next_number;
  front = longer it.front granted.front;
  current = Some (record {
    id = record { session = it.number; number = it.next_number };
    read_version = max granted.committed it.mark;
    ops = [];
  });
}

-- it has learnt of a receipt: the front is the longer one, and the mark the greater of the own and the spot's version
abbrev pub learning : Session → ReceiptAtFront → Session
learning it receipt = record it {
  front = longer it.front receipt.front;
  mark = max it.mark (spot_version receipt.spot);
}

-- with another open transaction, or none
abbrev pub with_current : Session → Option Transcript → Session
with_current it current = record it { current = current }

-- it has seen a front of the book
abbrev pub seeing : Session → List Entry → Session
seeing it front = record it { front = longer it.front front }

-- it is told that its transaction is committed
abbrev pub settling : Session → OutcomeAtFront → Session
settling it told = record it {
  front = longer it.front told.front;
  mark = max it.mark (last_version told.front);
}

-- A session takes what became of its transaction: that it is committed, with the longer front and its spot there, or
-- why it isn't, where it is told of it. Else, or where memory runs out, that isn't known.
abbrev pub TakesOutcome : Session → OutcomeAtFront → Transcript → Result (List Entry × Spot) Refusal → Session → Type 0
TakesOutcome it told transcript (Ok given) new =
    IsToldOf told transcript × (settle_fault told.outcome ≡ None) × (given.0 ≡ longer it.front told.front)
    × (given.1 ≡ spot_told told) × (new ≡ settling it told)
TakesOutcome it told transcript (Err why) new =
    (IsToldOf told transcript × (settle_fault told.outcome ≡ Some why) × (new ≡ seeing it told.front))
    ⊎ ((why ≡ CommitUnknownResult) × (new ≡ it))

-- it is given its receipt, or what it submitted is handed back
abbrev pub Settles
    : Session → OutcomeAtFront → Transcript → Result ReceiptAtFront (Refused Transcript) → Session → Type 0
Settles it told transcript (Ok receipt) new =
    (receipt.transcript ≡ transcript) × TakesOutcome it told transcript (Ok (receipt.front, receipt.spot)) new
Settles it told transcript (Err refused) new =
    (refused.back ≡ transcript) × TakesOutcome it told transcript (Err refused.why) new
