-- When a run was right.
use Rattle.std.specs.Prelude.{◌≡◌, ◌<◌, ◌≤◌, ◌+◌, ◌-◌, ◌++◌, ℕ, suc, List, length, true, false, Some, All, IsTrue}
use Rattle.std.specs.List.{AllByRecursion}
use Rattle.std.specs.List.Sorted.{IsPermutation}
use Rattle.fdb_keys.specs.Points.{Point}
use Rattle.fdb_mutations.specs.Pairs.{pairs_in}
use Rattle.fdb_txn.specs.book.Book.{last_version, seen_of, Place as BookPlace}
use Rattle.fdb_txn.specs.book.History.{IsBook}
use Rattle.fdb_txn.specs.book.Places.{place_at}
use Rattle.fdb_txn.specs.declared.entry.Entry.{Entry}
use Rattle.fdb_txn.specs.declared.spot.Spot.{Spot}
use Rattle.fdb_txn.specs.rules.Admission.{committed}
use Rattle.fdb_txn.specs.rules.SerialMap.{serial_map_at}
use Rattle.fdb_roles.specs.declared.placed.Placed.{Placed}
use Rattle.fdb_roles.specs.Spots.{IsSerialized}
use Rattle.fdb_load.specs.declared.judging.Asked.{Asked}
use Rattle.fdb_load.specs.declared.report.Report.{Report}
use Rattle.fdb_load.specs.declared.run.Place.{Place}
use Rattle.fdb_load.specs.declared.workload.Workload.{Workload}
use Rattle.fdb_load.specs.declared.workload.Workload.TheVariants.{Counters}
use Rattle.fdb_load.specs.Runs.{AreRising, every_key, have_places, receipt_places, run_of, spot_places}
use Rattle.fdb_load.specs.Workloads.{AreLeft}

-- All of so many tries were told of, and each transaction with a receipt was compared with the record.
abbrev pub AreAllTold : ℕ → Report → Type 0
AreAllTold tries report =
    (report.acknowledged + report.aborted + report.unknown ≡ tries) × (report.checked ≡ report.acknowledged)

-- Where there were tries, one was acknowledged, and where none of them read anything, none was turned down.
abbrev pub IsTakenUp : ℕ → Report → Type 0
IsTakenUp tries report = (0 < tries → 0 < report.acknowledged) × (report.workload ≡ Counters → report.aborted ≡ 0)

-- Each try was told of, they were taken up, and each transaction with a receipt is serialized where that says among the
-- entries, and was counted.
abbrev pub IsSerial : List Point → List Entry → List Placed → ℕ → Report → Type 0
IsSerial splits entries placed txns report =
    (report.acknowledged + report.aborted + report.unknown ≡ txns)
    × (report.checked ≡ report.acknowledged)
    × IsTakenUp txns report
    × AllByRecursion (IsSerialized splits entries) placed

-- The place is in an entry of a version up to this one, and its transaction is committed.
abbrev pub IsCommittedBy : List Point → List Entry → ℕ → Place → Type 0
IsCommittedBy splits entries version place =
    (there : BookPlace × List BookPlace) × (place_at entries place.index place.place ≡ Some there)
    × (there.0.version ≤ version) × (committed splits there.1 there.0 ≡ true)

-- They are the places of the first transaction and of those with a receipt, and of others that are committed by the
-- version, in some order.
abbrev pub ArePlacesOf : List Point → List Entry → ℕ → Spot → List Placed → List Place → Type 0
ArePlacesOf splits entries version first placed places =
    (others : List Place) × All (IsCommittedBy splits entries version) others
    × IsPermutation ((spot_places first ++ receipt_places placed) ++ others) places

-- Each of the places is there once, in the order of the book, their run leaves the pairs, and these are such as the
-- workload leaves of as many transactions, but for the first one.
abbrev pub IsRunOf : List Entry → Workload → List (Point × List ℕ) → List Place → Type 0
IsRunOf entries workload pairs places =
    AreRising places × IsTrue (have_places entries places)
    × (pairs ≡ pairs_in (run_of entries places) every_key false)
    × AreLeft workload pairs (length places - 1)

-- The pairs are those that the transactions at such places leave, run one at a time.
abbrev pub ArePairsOf : List Point → List Entry → ℕ → Asked → List Placed → List (Point × List ℕ) → Type 0
ArePairsOf splits entries version asked placed pairs =
    (places : List Place) × ArePlacesOf splits entries version asked.first placed places
    × IsRunOf entries asked.workload pairs places

-- The entries reach the version, and the pairs are those of every key on their serial map there.
abbrev pub AreHeldAt : List Point → List Entry → ℕ → List (Point × List ℕ) → Type 0
AreHeldAt splits entries version pairs =
    (version ≤ last_version entries)
    × (pairs ≡ pairs_in (serial_map_at splits version (seen_of entries).places) every_key false)

-- What a database holds in the end shows the run: a book of so many entries as are reported, and at the version that it
-- had come to, its pairs. Each of the acknowledged transactions is serialized there, and the pairs are those that
-- they leave with others that are committed by that version, run one at a time after the first one.
abbrev pub IsShown : Workload → ℕ → Report → Type 0
IsShown workload tries report =
    (splits : List Point) × (entries : List Entry) × (version : ℕ) × (pairs : List (Point × List ℕ)) × (first : Spot)
    × (placed : List Placed)
    × IsBook (suc (length splits)) entries × AreHeldAt splits entries version pairs
    × (length entries ≡ report.entries) × (length placed ≡ report.acknowledged)
    × AllByRecursion (IsSerialized splits entries) placed
    × ArePairsOf splits entries version (record { txns = tries; workload = workload; first = first }) placed pairs
