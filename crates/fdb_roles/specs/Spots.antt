-- What it means that a transaction is serialized at a spot, and where spots are in the order of all.
use Rattle.std.specs.Prelude.{◌≡◌, ℕ, true, List, Some, [], ◌<◌, ◌≤◌}
use Rattle.fdb_keys.specs.Points.{Point}
use Rattle.fdb_mutations.specs.Maps.{Map}
use Rattle.fdb_txn.specs.declared.spot.Spot.TheVariants as spot
use Rattle.fdb_txn.specs.declared.entry.Entry.{Entry}
use Rattle.fdb_txn.specs.book.Book.{Place, seen_of}
use Rattle.fdb_txn.specs.book.Places.{place_at}
use Rattle.fdb_txn.specs.rules.Admission.{committed}
use Rattle.fdb_txn.specs.rules.SerialMap.{serial_map, serial_map_at}
use Rattle.fdb_txn.specs.declared.spot.Spot.{Spot}
use Rattle.fdb_client.specs.declared.program.Transcript.{Transcript}
use Rattle.fdb_client.specs.ProgramLaws.{AgreeWhereOrdinary}
use Rattle.fdb_client.specs.Programs.{program, replies_of, exec, commit_request_of, mutations_of, write_ranges}
use Rattle.fdb_roles.specs.declared.placed.Placed.{Placed}

-- each ordinary operation of the transcript was answered as its program answers it on the map
abbrev pub AnsweredOn : Map → Transcript → Type 0
AnsweredOn map transcript = AgreeWhereOrdinary (program transcript.ops) (replies_of transcript.ops)
    (exec map (program transcript.ops))

-- The transaction is at its place of the book, under its version, and is committed there; it was answered as
-- on the serial map right before that place.
abbrev pub IsSerializedAt : List Point → List Entry → Transcript → ℕ → ℕ → ℕ → Type 0
IsSerializedAt splits book transcript entry place version =
    (there : Place × List Place) × (place_at book entry place ≡ Some there)
    × (there.0.version ≡ version) × (there.0.transaction ≡ commit_request_of transcript)
    × (committed splits there.1 there.0 ≡ true)
    × AnsweredOn (serial_map splits there.1) transcript

-- the transaction wrote nothing: it has no mutation, and its write set is empty
abbrev pub WroteNothing : Transcript → Type 0
WroteNothing transcript =
    (mutations_of (program transcript.ops) ≡ []) × (write_ranges (program transcript.ops) ≡ [])

-- The transaction wrote nothing, and was answered as on the serial map after all entries of version at most
-- its read version.
abbrev pub IsReadOnlyAt : List Point → List Entry → Transcript → ℕ → Type 0
IsReadOnlyAt splits book transcript version =
    (version ≡ transcript.read_version) × WroteNothing transcript
    × AnsweredOn (serial_map_at splits version (seen_of book).places) transcript

-- the transaction is serialized at its spot
abbrev pub IsSerializedAtSpot : List Point → List Entry → Transcript → Spot → Type 0
IsSerializedAtSpot splits book transcript (spot.Entry entry place version) =
    IsSerializedAt splits book transcript entry place version
IsSerializedAtSpot splits book transcript (spot.ReadOnly version) = IsReadOnlyAt splits book transcript version

abbrev pub IsSerialized : List Point → List Entry → Placed → Type 0
IsSerialized splits book placed = IsSerializedAtSpot splits book placed.transcript placed.spot

-- the version of the spot: of one in an entry the entry's, of one after all entries up to a version that version
abbrev pub spot_version : Spot → ℕ
spot_version (spot.Entry entry place version) = version
spot_version (spot.ReadOnly version) = version

-- The spot is ordered after the entries up to a version: one in an entry is of a greater version, one after all entries
-- up to a version is of that version or a greater one.
abbrev pub IsAfterVersion : ℕ → Spot → Type 0
IsAfterVersion v (spot.Entry entry place version) = v < version
IsAfterVersion v (spot.ReadOnly version) = v ≤ version
