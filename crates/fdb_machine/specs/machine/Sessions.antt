-- What each session is at.
use Rattle.std.specs.Prelude.{ℕ, ◌+◌, ◌-◌, ◌^◌, ◌==◌, ◌||◌, min, Bool, true, false, List, [], fold, Option, Some, None}
use Rattle.std.specs.Prelude.{unwrap_or, IfSome}
use Rattle.std.specs.Ordering.{nat_cmp}
use Rattle.std.specs.FinMap.{FinMap, get, insert}
use Rattle.fdb_client.specs.declared.program.Transcript.{Transcript}

-- what a session is at: it has no transaction; it asks for a read version; its transaction is open; it waits for what
-- becomes of the one that it submitted
pub data SessionState : Type 0 where
  Idle : SessionState
  Asking : SessionState
  Open : (transcript : Transcript) → SessionState
  Waiting : SessionState

-- a session: the number of the last transaction that it began, if it began any, and what it is at
pub record Session : Type 0 where
  pub last_number : Option ℕ
  pub state : SessionState

-- the session at another state
abbrev pub at_state : Session → SessionState → Session
at_state session state = record session { state = state }

-- the sessions by number, in their order
abbrev pub Sessions : Type 0
Sessions = FinMap nat_cmp Session

-- one that did nothing yet
abbrev pub new_session : Session
new_session = record { last_number = None; state = Idle }

-- the session with the number; one that did nothing yet has no entry
abbrev pub session_of : Sessions → ℕ → Session
session_of sessions number = unwrap_or (get sessions number) new_session

-- the sessions with another state of one of them
abbrev pub with_state : Sessions → ℕ → SessionState → Sessions
with_state sessions number state =
    insert sessions number (record { last_number = (session_of sessions number).last_number; state = state })

-- the session asks
abbrev pub is_asking : SessionState → Bool
is_asking Idle = false
is_asking Asking = true
is_asking (Open transcript) = false
is_asking Waiting = false

-- the session waits for what becomes of its transaction
abbrev pub is_waiting : SessionState → Bool
is_waiting Idle = false
is_waiting Asking = false
is_waiting (Open transcript) = false
is_waiting Waiting = true

-- the session asks, or waits
abbrev pub is_busy : SessionState → Bool
is_busy state = is_asking state || is_waiting state

-- the open transaction, if there is one
abbrev pub open_of : SessionState → Option Transcript
open_of Idle = None
open_of Asking = None
open_of (Open transcript) = Some transcript
open_of Waiting = None

-- the session's open transaction, if it has one
abbrev pub open_at : Sessions → ℕ → Option Transcript
open_at sessions number = open_of (session_of sessions number).state

-- the property holds of each open transaction
abbrev pub EachOpen : (Transcript → Type 0) → Sessions → Type 0
EachOpen P sessions = (number : ℕ) → IfSome (open_at sessions number) P

-- the greatest number that a transaction may have
abbrev pub greatest_number : ℕ
greatest_number = 2 ^ 64 - 1

-- the number of a session's next transaction, by that of its last one
abbrev pub next_number : Option ℕ → ℕ
next_number None = 0
next_number (Some last) = min (last + 1) greatest_number

-- the session's transactions have used up all numbers
abbrev pub has_used_up : Option ℕ → Bool
has_used_up None = false
has_used_up (Some last) = last == greatest_number

-- the session with its next transaction, which reads at the version and has no operation yet
abbrev pub begins_next : ℕ → ℕ → Session → Session
begins_next version number session =
    record {
      last_number = Some (next_number session.last_number);
      state = Open (record {
        id = record { session = number; number = next_number session.last_number };
        read_version = version;
        ops = [];
      });
    }

-- one of the sessions begins a transaction at the version
abbrev pub serve : ℕ → Sessions → ℕ → Sessions
serve version sessions number = insert sessions number (begins_next version number (session_of sessions number))

-- the transaction's session is told what became of it, and has none any more
abbrev pub tell : Sessions → Transcript → Sessions
tell sessions transcript = with_state sessions transcript.id.session Idle

-- and so the session of each of them
abbrev pub tell_all : List Transcript → Sessions → Sessions
tell_all transcripts sessions = fold tell sessions transcripts
