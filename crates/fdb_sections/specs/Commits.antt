-- How a commit ends for the session that asked for it.
use Rattle.std.specs.Prelude.{◌≡◌, ◌==◌, ◌&&◌, ◌⊎◌, max, Bool, true, false, not, List, [], length, Option, Some, None}
use Rattle.std.specs.Prelude.{IfSome, Result, Ok, Err, if◌then◌else◌}
use Rattle.fdb_keys.specs.Ranges.{Range}
use Rattle.fdb_keys.specs.declared.refusal.Refusal.{Refusal}
use Rattle.fdb_keys.specs.declared.refusal.Refusal.TheVariants as refusal
use Rattle.fdb_keys.specs.declared.refusal.Refused.{Refused}
use Rattle.fdb_book.specs.Fronts.{IsPrefix}
use Rattle.fdb_txn.specs.declared.entry.Entry.{Entry}
use Rattle.fdb_txn.specs.declared.spot.Spot.{Spot}
use Rattle.fdb_txn.specs.declared.spot.Spot.TheVariants as spot
use Rattle.fdb_proxy.specs.declared.config.Config.{Config}
use Rattle.fdb_client.specs.Programs.{is_read_only, commit_request_of}
use Rattle.fdb_client.specs.declared.program.Transcript.{Transcript}
use Rattle.fdb_roles.specs.Spots.{spot_version}
use Rattle.fdb_roles.specs.Sessions.{submit_fault}
use Rattle.fdb_sections.specs.Absent.{IsNowhere}
use Rattle.fdb_sections.specs.declared.messages.reply.CommitReply.{CommitReply}
use Rattle.fdb_sections.specs.declared.messages.reply.CommitReply.TheVariants as reply
use Rattle.fdb_sections.specs.Receipts.{ReceiptAtFront, OutcomeAtFront, IsTurnedDown}
use Rattle.fdb_sections.specs.Sessions.{Session, TakesOutcome, seeing}

-- what a refusal hands back, if anything: the transcript, and the points at which it conflicts
abbrev pub Back : Type 0
Back = Option (Transcript × List Range)

-- whether a spot is that of a transaction that wrote nothing
abbrev pub is_read_only_spot : Spot → Bool
is_read_only_spot (spot.Entry index place version) = false
is_read_only_spot (spot.ReadOnly version) = true

-- whether a refusal tells of the book, which a front has to show
abbrev pub is_shown : Refusal → Bool
is_shown refusal.NotCommitted = true
is_shown refusal.TransactionTooOld = true
is_shown refusal.BookFull = true
is_shown why = false

-- whether a transaction that is handed back may be refused so: another one wrote what it read, its version is too old,
-- nothing is known of it, a role failed, no version is left, the book is full, its id stands there already, the entry
-- didn't go on from the book, or the database is closed
abbrev pub is_handed_back : Refusal → Bool
is_handed_back refusal.NotCommitted = true
is_handed_back refusal.TransactionTooOld = true
is_handed_back refusal.CommitUnknownResult = true
is_handed_back refusal.Failed = true
is_handed_back refusal.Exhausted = true
is_handed_back refusal.BookFull = true
is_handed_back (refusal.Repeated place) = true
is_handed_back refusal.Chain = true
is_handed_back refusal.Closed = true
is_handed_back why = false

-- whether a refusal says that the transaction has no place in the book, and gets none
abbrev pub is_without_place : Refusal → Bool
is_without_place refusal.Failed = true
is_without_place refusal.Exhausted = true
is_without_place refusal.BookFull = true
is_without_place (refusal.Repeated place) = true
is_without_place refusal.Chain = true
is_without_place refusal.Closed = true
is_without_place why = false

-- What a refusal tells of the book that the session has seen then: the transaction stands there and isn't committed, or
-- the book is full. Nothing is told by any other one. It comes with the points at which a transaction conflicts that is
-- refused so, and with none else.
abbrev pub Tells : Config → List Entry → Transcript → Refusal → List Range → Type 0
Tells config front transcript why conflict =
    (why ≡ refusal.NotCommitted → IsTurnedDown config.resolver_splits front transcript refusal.NotCommitted conflict)
    × (why ≡ refusal.TransactionTooOld
    → IsTurnedDown config.resolver_splits front transcript refusal.TransactionTooOld conflict)
    × (why ≡ refusal.BookFull → length front ≡ config.book)
    × ((why ≡ refusal.NotCommitted → ⊥) → conflict ≡ [])

-- The session has the receipt, on whose front it goes on. Its mark is no less than the version of the spot.
pub record HasReceipt (old : Session) (transcript : Transcript) (receipt : ReceiptAtFront) (new : Session) : Type 0
  where
    pub its : receipt.transcript ≡ transcript
    pub read_only : is_read_only_spot receipt.spot ≡ is_read_only transcript
    pub begins : IsPrefix old.front receipt.front
    pub left : new ≡ record old {
      front = receipt.front;
      mark = max old.mark (spot_version receipt.spot);
      current = None;
    }

-- The session has the transcript back, with the points at which it conflicts, and nothing open. It has seen at least as
-- much of the book as before. Where it is told that its transaction has no place, none that it has seen is it.
pub record HasTranscript (config : Config) (old : Session) (transcript : Transcript)
    (refused : Refused Back) (new : Session) : Type 0 where
  pub conflict : List Range
  pub back : refused.back ≡ Some (transcript, conflict)
  pub listed : is_handed_back refused.why ≡ true
  pub tells : Tells config new.front transcript refused.why conflict
  pub begins : IsPrefix old.front new.front
  pub left : new ≡ record old { front = new.front; current = None }
  pub absent : is_without_place refused.why ≡ true → IsNowhere (commit_request_of transcript) new.front

-- Memory ran out before the proxy took the request: the transaction is open as it was, and isn't handed back.
abbrev pub IsOpenAgain : Session → Transcript → Refused Back → Session → Type 0
IsOpenAgain old transcript refused new =
    (refused ≡ record { why = refusal.NoMemory; back = None }) × (new ≡ record old { current = Some transcript })

-- what becomes of a session's transaction that was submitted
abbrev pub CommitEnds : Config → Session → Transcript → Result ReceiptAtFront (Refused Back) → Session → Type 0
CommitEnds config old transcript (Ok receipt) new = HasReceipt old transcript receipt new
CommitEnds config old transcript (Err refused) new =
    HasTranscript config old transcript refused new ⊎ IsOpenAgain old transcript refused new

-- whether a request that is refused so was never taken
abbrev pub is_untaken : Refusal → Bool
is_untaken refusal.NoMemory = true
is_untaken why = false

-- A session that is refused without a front has that reason where it tells nothing of the book and ends a transaction;
-- else it doesn't know what became of it.
abbrev pub plain_reason : Refusal → Refusal
plain_reason why = if is_handed_back why && not (is_shown why) then why else refusal.CommitUnknownResult

-- It is told this; but where that says that the transaction has no place and the front shows one, it doesn't know what
-- became of it.
abbrev pub IsUnlessShown : List Entry → Transcript → Refusal → Refusal → Type 0
IsUnlessShown front transcript plain why =
    ((why ≡ plain) × (is_without_place plain ≡ true → IsNowhere (commit_request_of transcript) front))
    ⊎ ((why ≡ refusal.CommitUnknownResult) × (IsNowhere (commit_request_of transcript) front → ⊥))

-- it is answered by the outcome that it is told, or doesn't know it
abbrev pub IsByOutcome : Session → OutcomeAtFront → Transcript → Result ReceiptAtFront (Refused Back)
    → Session → Type 0
IsByOutcome it told transcript (Ok receipt) new = TakesOutcome it told transcript (Ok (receipt.front, receipt.spot)) new
IsByOutcome it told transcript (Err refused) new = TakesOutcome it told transcript (Err refused.why) new

-- It sees the front that is to show that the book is full, which it is where that has as many entries as a book may
-- have, and without the transaction. Where memory runs out for that, it doesn't know.
abbrev pub IsByFull : Config → Session → Transcript → List Entry → Refusal → Session → Type 0
IsByFull config it transcript front why new =
    ((new ≡ seeing it front)
    × IsUnlessShown new.front transcript
    (if length new.front == config.book then refusal.BookFull else refusal.CommitUnknownResult) why)
    ⊎ ((new ≡ it) × (why ≡ refusal.CommitUnknownResult))

-- It is refused with no front to show why: it is open again where its request was never taken, and else it is answered
-- that reason, if a session may be, unless the own front shows the transaction.
abbrev pub IsByReason : Session → Transcript → Refusal → Result ReceiptAtFront (Refused Back) → Session
    → Type 0
IsByReason it transcript why (Ok receipt) new = ⊥
IsByReason it transcript why (Err refused) new =
    (is_untaken why ≡ true → IsOpenAgain it transcript refused new)
    × (is_untaken why ≡ false → IsUnlessShown it.front transcript (plain_reason why) refused.why × (new ≡ it))

-- A session is answered what it is told: what became of its transaction, that the book is full, or that it is refused.
abbrev pub IsToldSo : {B : Type 0} → Config → Session → Transcript → CommitReply B
    → Result ReceiptAtFront (Refused Back) → Session → Type 0
IsToldSo config it transcript (reply.Outcome told) result new = IsByOutcome it told transcript result new
IsToldSo config it transcript (reply.Full front) (Ok receipt) new = ⊥
IsToldSo config it transcript (reply.Full front) (Err refused) new =
    IsByFull config it transcript front refused.why new
IsToldSo config it transcript (reply.Refused why) result new = IsByReason it transcript why result new

-- why a session's transaction can't be submitted
abbrev pub open_fault : Option Transcript → Option Refusal
open_fault None = Some refusal.NoTransaction
open_fault (Some transcript) = submit_fault transcript

-- What a session that commits is answered. What was open stays where it can't be submitted, or memory runs out before.
abbrev pub CommitAnswers
    : Config → Session → Result ReceiptAtFront (Refused Back) → Session → Type 0
CommitAnswers config old (Ok receipt) new =
    (open_fault old.current ≡ None) × IfSome old.current (λ transcript. HasReceipt old transcript receipt new)
CommitAnswers config old (Err refused) new =
    ((refused.back ≡ None) × (new ≡ old)
    × ((refused.why ≡ refusal.NoMemory) ⊎ (open_fault old.current ≡ Some refused.why)))
    ⊎ ((open_fault old.current ≡ None)
    × IfSome old.current (λ transcript. HasTranscript config old transcript refused new))
