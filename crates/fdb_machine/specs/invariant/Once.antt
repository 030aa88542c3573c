-- How often there is a transaction of an id: in the book, at the commit proxies and as the open one of its session
-- once at most.
use Rattle.std.specs.Prelude.{◌≤◌, ℕ, ◌+◌, cond, nat_le, List, Option, Some, None, unwrap_or, sum_by}
use Rattle.fdb_txn.specs.declared.entry.Entry.{Entry}
use Rattle.fdb_txn.specs.declared.txn_id.TxnId.{TxnId}
use Rattle.fdb_txn.specs.book.Once.{same_id, times_in_book}
use Rattle.fdb_client.specs.declared.program.Transcript.{Transcript}
use Rattle.fdb_machine.specs.invariant.Places.{AllStand}
use Rattle.fdb_machine.specs.machine.Machine.{Machine}
use Rattle.fdb_machine.specs.machine.Roles.{CommitProxy}
use Rattle.fdb_machine.specs.machine.Sessions.{Session, SessionState, Idle, Asking, Open, Waiting, Sessions, session_of}
use Rattle.fdb_machine.specs.machine.Sessions.{greatest_number}

-- 1 where the number is one of those up to the last one, else 0
abbrev pub up_to : ℕ → Option ℕ → ℕ
up_to number None = 0
up_to number (Some last) = cond (nat_le number last) 1 0

module _ (id : TxnId) where
  -- how often there is a transaction of the id: 1 or 0 for one transaction, then among those who wait at a proxy, and
  -- at all of them, and as the open one of a session at the state
  abbrev pub once_for : TxnId → ℕ
  once_for other = cond (same_id id other) 1 0

  abbrev pub waiting_in : CommitProxy → ℕ
  waiting_in commit_proxy = sum_by (λ (transcript : Transcript). once_for transcript.id) commit_proxy.waiting

  abbrev pub times_waiting : List CommitProxy → ℕ
  times_waiting commit_proxies = sum_by waiting_in commit_proxies

  abbrev pub times_opened : SessionState → ℕ
  times_opened Idle = 0
  times_opened Asking = 0
  times_opened (Open transcript) = once_for transcript.id
  times_opened Waiting = 0

-- In the book, at the proxies and as the open one of its session there is one transaction of the id at most, and none
-- before it has begun.
pub record Once (id : TxnId) (book : List Entry) (commit_proxies : List CommitProxy) (session : Session) : Type 0 where
  pub within : unwrap_or session.last_number 0 ≤ greatest_number
  pub stands : times_in_book id book + times_waiting id commit_proxies + times_opened id session.state
      ≤ up_to id.number session.last_number

abbrev pub OnceAmong : TxnId → List Entry → List CommitProxy → Sessions → Type 0
OnceAmong id book commit_proxies sessions = Once id book commit_proxies (session_of sessions id.session)

-- all sessions stand, and there is one transaction of the id at most
abbrev pub IsOnce : TxnId → Machine → Type 0
IsOnce id m = AllStand m × OnceAmong id m.book m.commit_proxies m.sessions
