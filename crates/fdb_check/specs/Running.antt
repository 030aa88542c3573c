-- How far a run of the book is, and which of the acknowledged are compared with it.
use Rattle.std.specs.Prelude.{◌≡◌, ◌<◌, ◌≤◌, ◌⊎◌, ℕ, suc, false, List, [], ◌∷◌, take, length, Option, Some, None}
use Rattle.std.specs.Prelude.{slice_get, nat_lt, if◌then◌else◌}
use Rattle.fdb_keys.specs.Points.{Point}
use Rattle.fdb_mutations.specs.declared.mutation.Mutation.{Mutation}
use Rattle.fdb_mutations.specs.Maps.{Map}
use Rattle.fdb_mutations.specs.Mutations.{effects}
use Rattle.fdb_txn.specs.declared.entry.Entry.{Entry}
use Rattle.fdb_txn.specs.book.Transactions.{Transaction}
use Rattle.fdb_txn.specs.book.Book.{Seen, seen_before}
use Rattle.fdb_txn.specs.rules.Messages.{mutations_in}
use Rattle.fdb_txn.specs.rules.SerialMap.{serial_map}
use Rattle.fdb_txn.specs.rules.Stamped.{stamped_by}
use Rattle.fdb_proxy.specs.declared.outcome.Outcome.{Outcome}
use Rattle.fdb_proxy.specs.declared.outcome.Outcome.TheVariants as outcome
use Rattle.fdb_roles.specs.declared.placed.Placed.{Placed}
use Rattle.fdb_roles.specs.Bodies.{body_by}
use Rattle.fdb_check.specs.Judged.{outcomes_of, AreJudged, JudgedBook}
use Rattle.fdb_check.specs.Spots.{moment_of, comes_before}
use Rattle.fdb_check.specs.declared.run.Run.{Run}
use Rattle.fdb_check.specs.declared.visits.Visit.{Visit}

-- the mutations of a transaction by what becomes of it, with the stamp of its commit
abbrev pub runs : Outcome → Transaction → List Mutation
runs (outcome.Commit version place) t = stamped_by version place t.mutations
runs outcome.Conflict t = []
runs outcome.Old t = []

-- the map after the first places of a batch
abbrev pub map_after : Map → List Transaction → List Outcome → ℕ → Map
map_after map batch outcomes count = effects map (mutations_in (body_by 0 (take count batch) (take count outcomes)))

-- the transactions of an entry, if there is one
abbrev pub batch_of : Option Entry → List Transaction
batch_of None = []
batch_of (Some entry) = entry.batch

-- the map before the next entry, if there is one, and after the first places of it
abbrev pub map_within : List Point → Seen → Option Entry → ℕ → Map
map_within splits before next count =
    map_after (serial_map splits before.places) (batch_of next) (outcomes_of splits before next) count

-- A run has come to a place of an entry: it has what becomes of all places of the book, and its map is that after the
-- places before.
pub record IsRunAt (splits : List Point) (book : List Entry) (run : Run) : Type 0 where
  pub judged : AreJudged splits book run.judged.now
  pub map : run.map ≡ map_within splits (seen_before book run.entry) (slice_get book run.entry) run.place
  pub within : run.place ≤ length (batch_of (slice_get book run.entry))

-- it has not gone past a place of an entry
abbrev pub IsNotPast : Run → ℕ → ℕ → Type 0
IsNotPast run entry place = (run.entry < entry) ⊎ ((run.entry ≡ entry) × (run.place ≤ place))

-- it has come to that place of an entry
abbrev pub HasComeTo : List Point → List Entry → ℕ → ℕ → Run → Type 0
HasComeTo splits book entry place run = IsRunAt splits book run × (run.entry ≡ entry) × (run.place ≡ place)

-- a run of a judged book, and how many entries it has run
pub record SerialRun : Type 0 where
  pub judged : JudgedBook
  pub entries : ℕ

-- the run of a book after so many entries
abbrev pub run_of : List Point → List Entry → ℕ → SerialRun
run_of splits book n = record { judged = record { splits = splits; book = book }; entries = n }

-- it has run one entry more, if there is one
abbrev pub after_next : SerialRun → SerialRun
after_next run = record {
  judged = run.judged;
  entries = if nat_lt run.entries (length run.judged.book) then suc run.entries else run.entries;
}

-- the moment of one of them in the run
abbrev pub moment : Visit → ℕ × ℕ
moment visit = (visit.entries, visit.places)

-- each one, from a number on, with its moment
abbrev pub visits_from : List Entry → ℕ → List Placed → List Visit
visits_from book i [] = []
visits_from book i (one ∷ others) =
    record { entries = (moment_of book one.spot).0; places = (moment_of book one.spot).1; index = i }
    ∷ visits_from book (suc i) others

-- none comes before an earlier one of the list
abbrev pub IsInOrder : List Visit → Type 0
IsInOrder visits =
    (i j : ℕ) (one other : Visit) → i ≤ j → slice_get visits i ≡ Some one → slice_get visits j ≡ Some other
    → comes_before (moment other) (moment one) ≡ false

-- the claim is true of the one that a visit is of
abbrev pub IsTrueOf : (Placed → Type 0) → List Placed → Visit → Type 0
IsTrueOf Claim placed visit = (one : Placed) → slice_get placed visit.index ≡ Some one → Claim one
