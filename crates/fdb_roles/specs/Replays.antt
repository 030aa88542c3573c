-- What the peeks of a tag tell of the run.
use Rattle.std.specs.Prelude.{◌≡◌, ◌≤◌, ⊤, ℕ, suc, true, List, [], ◌∷◌, take, length, None}
use Rattle.std.specs.List.{AllByRecursion}
use Rattle.std.specs.FinMap.{get}
use Rattle.fdb_keys.specs.Points.{Point}
use Rattle.fdb_keys.specs.Ranges.{Range, in_range}
use Rattle.fdb_txn.specs.declared.entry.Entry.{Entry}
use Rattle.fdb_txn.specs.book.Book.{seen_of}
use Rattle.fdb_txn.specs.book.History.{AreEntries}
use Rattle.fdb_txn.specs.rules.Messages.{messages_for, value_in}
use Rattle.fdb_txn.specs.rules.SerialMap.{serial_map_at}
use Rattle.fdb_log.specs.declared.peek.Peek.{Peek}
use Rattle.fdb_log.specs.Logs.{Log, kept, peek_of, popped_through}
use Rattle.fdb_log.specs.Messages.{above}
use Rattle.fdb_storage.specs.Replays.{covered, messages_of, replay_fault}

-- The peek is what a log gives of a tag that wasn't popped, by the first entries of the book that the log took.
pub record IsUnpopped (splits : List Point) (range : Range) (book : List Entry) (peek : Peek) : Type 0 where
  pub log : Log
  pub tag : ℕ
  pub taken : ℕ
  pub limit : ℕ
  pub keeps : kept log tag ≡ above (popped_through log tag) (messages_for splits range (take taken book))
  pub unpopped : popped_through log tag ≡ 0
  pub gives : peek ≡ peek_of log tag peek.after limit

-- each peek begins where the one before it ended, and the first one at the version
abbrev pub GoOnFrom : ℕ → List Peek → Type 0
GoOnFrom version [] = ⊤
GoOnFrom version (peek ∷ peeks) = (peek.after ≡ version) × GoOnFrom peek.through peeks

-- The messages of peeks that go on from 0 leave at each point of the range and each version that they cover what stands
-- there on the serial map.
abbrev pub ReplaysTellTheRun : Type 0
ReplaysTellTheRun =
    (splits : List Point) (range : Range) (book : List Entry) (peeks : List Peek)
    → AreEntries (suc (length splits)) 0 book → AllByRecursion (IsUnpopped splits range book) peeks → GoOnFrom 0 peeks
    → (v : ℕ) (x : Point) → v ≤ covered peeks → in_range range x ≡ true
    → value_in v x (messages_of peeks) ≡ get (serial_map_at splits v (seen_of book).places) x

-- And none is refused there: nothing in their messages waits for a stamp.
abbrev pub ReplaysAreNotRefused : Type 0
ReplaysAreNotRefused =
    (splits : List Point) (range : Range) (book : List Entry) (peeks : List Peek)
    → AreEntries (suc (length splits)) 0 book → AllByRecursion (IsUnpopped splits range book) peeks → GoOnFrom 0 peeks
    → (v : ℕ) → v ≤ covered peeks → replay_fault peeks v ≡ None
