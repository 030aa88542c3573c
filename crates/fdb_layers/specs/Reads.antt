-- What a transaction reads that wrote no value: the run at its read version.
use Rattle.std.specs.Prelude.{◌≡◌, ℕ, suc, false, List, [], length, Option, Some, None}
use Rattle.std.specs.FinMap.{empty}
use Rattle.fdb_keys.specs.Points.{Point}
use Rattle.fdb_keys.specs.Ranges.{Range}
use Rattle.fdb_mutations.specs.Maps.{Map}
use Rattle.fdb_mutations.specs.Pairs.{pairs_in}
use Rattle.fdb_txn.specs.declared.entry.Entry.{Entry}
use Rattle.fdb_txn.specs.book.Book.{seen_of}
use Rattle.fdb_txn.specs.rules.SerialMap.{serial_map_at}
use Rattle.fdb_client.specs.declared.program.Transcript.{Transcript}
use Rattle.fdb_sections.specs.Sessions.{Session}
use Rattle.fdb_runtime.specs.Works.{IsSameSession, IsStillOpen}
use Rattle.fdb_layers.specs.Operations.{WritesNoValue}

-- the run of a front at the read version of what is open
abbrev pub run_at : List Point → List Entry → Option Transcript → Map
run_at splits front None = empty
run_at splits front (Some transcript) = serial_map_at splits transcript.read_version (seen_of front).places

-- the run at the read version of the session's open transaction, by what the session has seen
abbrev pub run_read : List Point → Session → Map
run_read splits it = run_at splits it.front it.current

-- A transaction is open, and has written no value.
abbrev pub HasWrittenNone : Option Transcript → Type 0
HasWrittenNone None = ⊥
HasWrittenNone (Some transcript) = WritesNoValue transcript

-- The session goes on with what was open, has seen nothing more, and no value is written.
pub record HasOnlyRead (old new : Session) : Type 0 where
  pub same : IsSameSession old new
  pub still_open : IsStillOpen old.current new.current
  pub seen : new.front ≡ old.front
  pub unwritten : HasWrittenNone new.current

-- the map's pairs in what is left of a range
abbrev pub pairs_left : Map → Option Range → List (Point × List ℕ)
pairs_left map None = []
pairs_left map (Some range) = pairs_in map range false

-- how far it is to the end of a walk
abbrev pub count_left : Map → Option Range → ℕ
count_left map None = 0
count_left map (Some range) = suc (length (pairs_in map range false))
