-- What sessions come to and are told, computed.
use Rattle.std.specs.Prelude.{◌≡◌, ◌++◌, ℕ, true, false, List, [], ◌∷◌, codes, Some, None, Result, Ok, Err}
use Rattle.fdb_keys.specs.Ranges.{Range}
use Rattle.fdb_keys.specs.declared.refusal.Refusal.{Refusal}
use Rattle.fdb_keys.specs.declared.refusal.Refusal.TheVariants as refusal
use Rattle.fdb_keys.specs.declared.refusal.Refused.{Refused}
use Rattle.fdb_txn.specs.declared.entry.Entry.{Entry}
use Rattle.fdb_txn.specs.declared.spot.Spot.TheVariants as spot
use Rattle.fdb_proxy.specs.declared.config.Config.{Config}
use Rattle.fdb_client.specs.Programs.{commit_request_of}
use Rattle.fdb_client.specs.declared.program.Transcript.{Transcript}
use Rattle.fdb_roles.specs.SmallBooks.{does_nothing, from_to, plain, reads_and_sets, set_and_cleared}
use Rattle.fdb_roles.specs.SmallBooks.{two_in_one_entry}
use Rattle.fdb_sections.specs.Commits.{Back, IsByFull, IsByReason, Tells, plain_reason}
use Rattle.fdb_sections.specs.Reading.{RefusedBy, RefusesUnreadable, TellsUnreadable, own_writes_decide}
use Rattle.fdb_sections.specs.Receipts.{GrantAtFront, IsTurnedDown, ReceiptAtFront}
use Rattle.fdb_sections.specs.Refusals.{is_of_begin, is_of_read}
use Rattle.fdb_sections.specs.Sessions.{Session, begin_fault, beginning, learning}
use Rattle.fdb_sections.specs.Waiting.{ended_by, reach_fault}

-- session 3, which has seen nothing and began nothing
abbrev pub fresh : Session
fresh = record { number = 3; next_number = 0; front = []; mark = 0; current = None }

-- the same once it has seen the entry at 100 and that at 200, in which session 0's transaction stands
abbrev pub marked : Session
marked = record fresh { front = set_and_cleared; mark = 200 }

-- version 100, granted with the front that ends there
abbrev pub granted : GrantAtFront
granted = record { front = two_in_one_entry; committed = 100 }

-- session 3's first transaction, which reads at the version
abbrev pub opened : ℕ → Transcript
opened version = record { id = record { session = 3; number = 0 }; read_version = version; ops = [] }

-- a receipt at the entry at 100
abbrev pub received : ReceiptAtFront
received = record { front = two_in_one_entry; spot = spot.Entry 0 0 100; transcript = reads_and_sets 0 None }

-- A session begins at the version that it is granted, and sees what that was granted with; or at its mark, where that
-- is greater, and then it has seen more. A number is used once. What it learns raises its mark and its front, and never
-- lowers them.
abbrev pub WorkedSessions : Type 0
WorkedSessions =
    (beginning fresh granted
    ≡ record { number = 3; next_number = 1; front = two_in_one_entry; mark = 0; current = Some (opened 100) })
    × (beginning marked granted ≡ record marked { next_number = 1; current = Some (opened 200) })
    × (beginning marked granted ≡ record marked { next_number = 1; current = Some (opened 100) } → ⊥)
    × (begin_fault fresh ≡ None)
    × (begin_fault (record fresh { next_number = 18446744073709551614 }) ≡ None)
    × (begin_fault (record fresh { next_number = 18446744073709551615 }) ≡ Some refusal.Exhausted)
    × (learning fresh received ≡ record fresh { front = two_in_one_entry; mark = 100 })
    × (learning marked received ≡ marked)

-- the second of the two transactions, in an entry so far above its read version that it read below the horizon
abbrev pub far : List Entry
far = record {
  version = 5000001;
  prev = 0;
  horizon = 1;
  moves = [];
  batch = commit_request_of (reads_and_sets 1 None) ∷ [];
} ∷ []

-- the key a alone
abbrev pub only_a : List Range
only_a = from_to (codes "a") (codes "a" ++ 0 ∷ []) ∷ []

-- The second one read what the first one wrote: it is turned down for a conflict, and not as too old; the first one
-- isn't turned down, and on a front without the entry nobody is. In an entry whose horizon it read below it is too old,
-- and has no conflict.
abbrev pub WorkedTurnedDown : Type 0
WorkedTurnedDown =
    IsTurnedDown [] two_in_one_entry (reads_and_sets 1 None) refusal.NotCommitted only_a
    × (IsTurnedDown [] two_in_one_entry (reads_and_sets 1 None) refusal.TransactionTooOld only_a → ⊥)
    × (IsTurnedDown [] two_in_one_entry (reads_and_sets 0 None) refusal.NotCommitted only_a → ⊥)
    × (IsTurnedDown [] [] (reads_and_sets 1 None) refusal.NotCommitted only_a → ⊥)
    × IsTurnedDown [] far (reads_and_sets 1 None) refusal.TransactionTooOld []
    × (IsTurnedDown [] far (reads_and_sets 1 None) refusal.NotCommitted [] → ⊥)

-- What tells nothing of the book is handed on as it is; what a front would have to show, that memory ran out, and what
-- ends no transaction leave it open what became of the transaction.
abbrev pub WorkedReasons : Type 0
WorkedReasons =
    (plain_reason refusal.Failed ≡ refusal.Failed)
    × (plain_reason refusal.Closed ≡ refusal.Closed)
    × (plain_reason refusal.Exhausted ≡ refusal.Exhausted)
    × (plain_reason refusal.Chain ≡ refusal.Chain)
    × (plain_reason (refusal.Repeated 7) ≡ refusal.Repeated 7)
    × (plain_reason refusal.NotCommitted ≡ refusal.CommitUnknownResult)
    × (plain_reason refusal.TransactionTooOld ≡ refusal.CommitUnknownResult)
    × (plain_reason refusal.BookFull ≡ refusal.CommitUnknownResult)
    × (plain_reason refusal.NoMemory ≡ refusal.CommitUnknownResult)
    × (plain_reason refusal.WrongState ≡ refusal.CommitUnknownResult)

-- the same session with its first transaction open
abbrev pub opened_first : Session
opened_first = record fresh { current = Some (opened 100) }

-- A request that was never taken, since memory ran out, leaves its transaction open, and nothing is handed back; after
-- any other reason none is open, and the transaction is handed back.
abbrev pub WorkedUntaken : Type 0
WorkedUntaken =
    IsByReason fresh (opened 100) refusal.NoMemory (Err (record { why = refusal.NoMemory; back = None })) opened_first
    × (IsByReason fresh (opened 100) refusal.NoMemory (Err (record { why = refusal.NoMemory; back = None })) fresh → ⊥)
    × (IsByReason fresh (opened 100) refusal.NoMemory
    (Err (record { why = refusal.CommitUnknownResult; back = Some (opened 100, []) })) opened_first → ⊥)
    × IsByReason fresh (opened 100) refusal.Failed
    (Err (record { why = refusal.Failed; back = Some (opened 100, []) })) fresh
    × (IsByReason fresh (opened 100) refusal.Failed
    (Err (record { why = refusal.NoMemory; back = None })) opened_first → ⊥)
    × (IsByReason fresh (opened 100) refusal.Failed
    (Err (record { why = refusal.Failed; back = Some (opened 100, []) })) opened_first → ⊥)

-- one of each role, and a book of so many entries
abbrev pub of_book : ℕ → Config
of_book entries = record plain { book = entries }

-- what session 3 comes to that sees the entry at 100
abbrev pub has_seen : Session
has_seen = record fresh { front = two_in_one_entry }

-- The book is full where the front has as many entries as it may have; where it has fewer, nobody is told so.
abbrev pub WorkedFullBooks : Type 0
WorkedFullBooks =
    IsByFull (of_book 1) fresh (opened 100) two_in_one_entry refusal.BookFull has_seen
    × (IsByFull (of_book 2) fresh (opened 100) two_in_one_entry refusal.BookFull has_seen → ⊥)
    × (IsByFull (of_book 1) fresh (opened 100) two_in_one_entry refusal.BookFull fresh → ⊥)
    × (IsByFull (of_book 1) fresh (opened 100) two_in_one_entry refusal.Failed has_seen → ⊥)
    × Tells (of_book 1) two_in_one_entry does_nothing refusal.BookFull []
    × (Tells (of_book 2) two_in_one_entry does_nothing refusal.BookFull [] → ⊥)

-- the keys from a up to c
abbrev pub a_and_b : List Range
a_and_b = from_to (codes "a") (codes "c") ∷ []

-- what the second one is told with some set, where it stands on the front
abbrev pub tells_second : List Entry → Refusal → List Range → Type 0
tells_second front why conflict = Tells (of_book 1) front (reads_and_sets 1 None) why conflict

-- The second one is told of just the key that the first one wrote: of no fewer keys, and of no more. Who is too old, or
-- doesn't know what became of the transaction, is told of no key.
abbrev pub WorkedConflicts : Type 0
WorkedConflicts =
    tells_second two_in_one_entry refusal.NotCommitted only_a
    × (tells_second two_in_one_entry refusal.NotCommitted [] → ⊥)
    × (tells_second two_in_one_entry refusal.NotCommitted a_and_b → ⊥)
    × tells_second far refusal.TransactionTooOld []
    × (tells_second far refusal.TransactionTooOld only_a → ⊥)
    × tells_second two_in_one_entry refusal.CommitUnknownResult []
    × (tells_second two_in_one_entry refusal.CommitUnknownResult only_a → ⊥)

-- who is refused so, with the transcript and no point
abbrev pub back : Refusal → Transcript → Result ReceiptAtFront (Refused Back)
back why transcript = Err (record { why = why; back = Some (transcript, []) })

-- Whose transaction stands on the front is never told that the book is full or that a role failed, but that it isn't
-- known what became of it; whose doesn't is told just that.
abbrev pub WorkedPlaces : Type 0
WorkedPlaces =
    (IsByFull (of_book 1) fresh (reads_and_sets 1 None) two_in_one_entry refusal.BookFull has_seen → ⊥)
    × IsByFull (of_book 1) fresh (reads_and_sets 1 None) two_in_one_entry refusal.CommitUnknownResult has_seen
    × (IsByFull (of_book 1) fresh (opened 100) two_in_one_entry refusal.CommitUnknownResult has_seen → ⊥)
    × (IsByReason has_seen (reads_and_sets 1 None) refusal.Failed (back refusal.Failed (reads_and_sets 1 None)) has_seen
    → ⊥)
    × IsByReason has_seen (reads_and_sets 1 None) refusal.Failed
    (back refusal.CommitUnknownResult (reads_and_sets 1 None)) has_seen
    × (IsByReason has_seen (opened 100) refusal.Failed (back refusal.CommitUnknownResult (opened 100)) has_seen → ⊥)
    × IsByReason has_seen (opened 100) refusal.Failed (back refusal.Failed (opened 100)) has_seen

-- The first reason stays why a shard's thread ended, but for the end of the database, which only a failure of the shard
-- itself stands before. Then nobody reads there, also at a version that the shard has come to; after any other end who
-- reads at such a version does.
abbrev pub WorkedEndings : Type 0
WorkedEndings =
    (ended_by false None refusal.Failed ≡ Some refusal.Failed)
    × (ended_by false (Some refusal.Failed) refusal.Closed ≡ Some refusal.Closed)
    × (ended_by false (Some refusal.Closed) refusal.Failed ≡ Some refusal.Closed)
    × (ended_by true (Some refusal.Failed) refusal.Closed ≡ Some refusal.Failed)
    × (reach_fault (Some refusal.Closed) 100 100 ≡ Some refusal.Closed)
    × (reach_fault (Some refusal.Failed) 100 100 ≡ None)
    × (reach_fault (Some refusal.Failed) 100 101 ≡ Some refusal.Failed)
    × (reach_fault None 100 101 ≡ None)

-- What a read is told of an unreadable key. One that isn't answered for another reason tells nothing of the key, but a
-- get of an unreadable key is refused for no other reason than memory.
abbrev pub WorkedUnreadable : Type 0
WorkedUnreadable =
    TellsUnreadable {T = ℕ} (Ok 7) false
    × (TellsUnreadable {T = ℕ} (Ok 7) true → ⊥)
    × TellsUnreadable {T = ℕ} (Err refusal.AccessedUnreadable) true
    × (TellsUnreadable {T = ℕ} (Err refusal.AccessedUnreadable) false → ⊥)
    × TellsUnreadable {T = ℕ} (Err refusal.TransactionTooOld) true
    × TellsUnreadable {T = ℕ} (Err refusal.TransactionTooOld) false
    × RefusesUnreadable {T = ℕ} (Err refusal.AccessedUnreadable) true
    × RefusesUnreadable {T = ℕ} (Err refusal.NoMemory) true
    × (RefusesUnreadable {T = ℕ} (Err refusal.TransactionTooOld) true → ⊥)
    × RefusesUnreadable {T = ℕ} (Err refusal.TransactionTooOld) false
    × (RefusesUnreadable {T = ℕ} (Err refusal.Failed) true → ⊥)
    × (is_of_read refusal.AccessedUnreadable ≡ true)
    × (is_of_read refusal.FutureVersion ≡ false)
    × (is_of_begin refusal.AccessedUnreadable ≡ false)

-- What a call is refused by: its fault, unless memory ran out first, and nothing else. No key is decided where no
-- transaction is open.
abbrev pub WorkedRefusals : Type 0
WorkedRefusals =
    RefusedBy {T = ℕ} (Ok 7) None
    × (RefusedBy {T = ℕ} (Ok 7) (Some refusal.AccessedUnreadable) → ⊥)
    × RefusedBy {T = ℕ} (Err refusal.AccessedUnreadable) (Some refusal.AccessedUnreadable)
    × RefusedBy {T = ℕ} (Err refusal.NoMemory) (Some refusal.AccessedUnreadable)
    × RefusedBy {T = ℕ} (Err refusal.NoMemory) None
    × (RefusedBy {T = ℕ} (Err refusal.AccessedUnreadable) None → ⊥)
    × (RefusedBy {T = ℕ} (Err refusal.TransactionTooOld) (Some refusal.AccessedUnreadable) → ⊥)
    × (own_writes_decide None (1 ∷ []) ≡ false)
