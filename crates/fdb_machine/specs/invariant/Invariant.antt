-- What holds of the machine between any two steps.
use Rattle.std.specs.Prelude.{◌≡◌, ◌<◌, ◌≤◌, suc, true, false, length, map, Some, slice_get}
use Rattle.std.specs.List.{AllByRecursion}
use Rattle.fdb_txn.specs.Limits.{window}
use Rattle.fdb_txn.specs.declared.entry.Entry.{Entry}
use Rattle.fdb_txn.specs.declared.entry.Move.{Move}
use Rattle.fdb_txn.specs.declared.txn_id.TxnId.{TxnId}
use Rattle.fdb_txn.specs.book.Book.{seen_of, last_version}
use Rattle.fdb_txn.specs.book.History.{AreEntries, HorizonsRise}
use Rattle.fdb_txn.specs.rules.SerialMap.{serial_map_at}
use Rattle.fdb_client.specs.declared.program.Transcript.{Transcript}
use Rattle.fdb_client.specs.Programs.{program, replies_of, exec, commit_request_of}
use Rattle.fdb_roles.specs.declared.placed.Placed.{Placed}
use Rattle.fdb_roles.specs.Spots.{IsSerialized, spot_version, IsAfterVersion}
use Rattle.fdb_machine.specs.machine.Roles.{CommitProxy}
use Rattle.fdb_machine.specs.invariant.Once.{IsOnce}
use Rattle.fdb_machine.specs.machine.Machine.{Machine}
use Rattle.fdb_machine.specs.machine.Sessions.{EachOpen}
use Rattle.fdb_machine.specs.machine.CommitProxySteps.{is_idle, is_reported}

-- The transcript reads at most at the committed version, and was answered as its program is on the map at its
-- read version.
abbrev pub IsReplied : Machine → Transcript → Type 0
IsReplied m transcript =
    (transcript.read_version ≤ m.committed)
    × (replies_of transcript.ops ≡ exec
    (serial_map_at m.config.resolver_splits transcript.read_version (seen_of m.book).places)
    (program transcript.ops))

-- A batch in flight is that of the entry, in the same order; once it is reported, the committed version is at least
-- the entry's.
abbrev pub IsInFlight : Machine → CommitProxy → Type 0
IsInFlight m commit_proxy =
    is_idle commit_proxy.stage ≡ false
    → (entry : Entry) × (slice_get m.book commit_proxy.entry ≡ Some entry)
    × (entry.batch ≡ map commit_request_of commit_proxy.in_flight)
    × (is_reported commit_proxy.stage ≡ true → entry.version ≤ m.committed)

abbrev pub CommitProxyIsSound : Machine → CommitProxy → Type 0
CommitProxyIsSound m commit_proxy = AllByRecursion (IsReplied m) commit_proxy.waiting
    × AllByRecursion (IsReplied m) commit_proxy.in_flight × IsInFlight m commit_proxy

-- an acknowledged transaction is serialized at its spot
abbrev pub IsSerializedIn : Machine → Placed → Type 0
IsSerializedIn m placed = IsSerialized m.config.resolver_splits m.book placed

-- an acknowledged transaction is at a spot of at most the committed version, after the version that it read at
abbrev pub IsReported : Machine → Placed → Type 0
IsReported m placed = (spot_version placed.spot ≤ m.committed)
    × IsAfterVersion placed.transcript.read_version placed.spot

pub record Invariant (m : Machine) : Type 0 where
  pub entries : AreEntries (suc (length m.config.resolver_splits)) 0 m.book
  pub pending : AllByRecursion (λ (move : Move). move.to < suc (length m.config.resolver_splits)) m.pending
  pub committed : m.committed ≤ last_version m.book
  pub opened : EachOpen (IsReplied m) m.sessions
  pub commit_proxies : AllByRecursion (CommitProxyIsSound m) m.commit_proxies
  pub acknowledged : AllByRecursion (IsSerializedIn m) m.acknowledged
  pub reported : AllByRecursion (IsReported m) m.acknowledged
  pub once : (id : TxnId) → IsOnce id m
  pub horizons : HorizonsRise 0 m.book
  pub window : (1 ≤ m.window) × (m.window ≤ window)
