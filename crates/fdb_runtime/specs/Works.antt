-- What a session promises of work that it runs as a transaction, and what the work promises of the session.
use Rattle.std.specs.Prelude.{◌≡◌, ◌≤◌, ◌+◌, ◌||◌, ◌&&◌, ℕ, suc, Bool, true, [], Option, Some, None}
use Rattle.fdb_keys.specs.Retries.{is_retryable, is_maybe_committed}
use Rattle.fdb_keys.specs.declared.refusal.Refusal.{Refusal}
use Rattle.fdb_client.specs.declared.program.Transcript.{Transcript}
use Rattle.fdb_sections.specs.Receipts.{ReceiptAtFront}
use Rattle.fdb_sections.specs.Refusals.{is_of_begin}
use Rattle.fdb_sections.specs.Sessions.{Session}

-- A transaction is open, and has done nothing yet.
abbrev pub IsUntouched : Option Transcript → Type 0
IsUntouched None = ⊥
IsUntouched (Some transcript) = transcript.ops ≡ []

-- The transaction that was open still is.
abbrev pub IsStillOpen : Option Transcript → Option Transcript → Type 0
IsStillOpen (Some old) (Some new) = (new.id ≡ old.id) × (new.read_version ≡ old.read_version)
IsStillOpen (Some old) None = ⊥
IsStillOpen None new = ⊥

-- It is the session that it was, and began nothing meanwhile.
abbrev pub IsSameSession : Session → Session → Type 0
IsSameSession old new = (new.number ≡ old.number) × (new.next_number ≡ old.next_number)

-- whether work that is refused so is tried anew: where its transaction isn't committed but may be at another try, and
-- where that isn't known, if the work finds out by itself
abbrev pub is_tried_anew : Bool → Refusal → Bool
is_tried_anew finds_out why = is_retryable why || (finds_out && is_maybe_committed why)

-- The session ran so many tries at most, one transaction each, and nothing is open.
pub record HasTried (most : ℕ) (old new : Session) : Type 0 where
  pub number : new.number ≡ old.number
  pub begun : old.next_number ≤ new.next_number
  pub bounded : new.next_number ≤ old.next_number + most
  pub ended : new.current ≡ None

-- The receipt is that of the last try, whose transcript is such as the work says, and the session goes on from there.
pub record HasCommitted (does : Transcript → Type 0) (old : Session) (receipt : ReceiptAtFront) (new : Session) : Type 0
  where
    pub of_session : receipt.transcript.id.session ≡ old.number
    pub last : suc receipt.transcript.id.number ≡ new.next_number
    pub own : old.next_number ≤ receipt.transcript.id.number
    pub done : does receipt.transcript
    pub seen : new.front ≡ receipt.front

-- Where no try was begun, that was refused. What is tried anew was tried as often as it may be.
pub record HasGivenUp (most : ℕ) (finds_out : Bool) (old : Session) (why : Refusal) (new : Session) : Type 0 where
  pub unbegun : new.next_number ≡ old.next_number → is_of_begin why ≡ true
  pub all_tried : is_tried_anew finds_out why ≡ true → new.next_number ≡ old.next_number + most
