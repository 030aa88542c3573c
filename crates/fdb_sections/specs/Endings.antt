-- How the open transaction of a session ends.
use Rattle.std.specs.Prelude.{◌≡◌, ◌⊎◌, ⊤, true, false, List, None, Some, Result, Ok, Err}
use Rattle.fdb_keys.specs.Points.{Point}
use Rattle.fdb_keys.specs.declared.refusal.Refusal.{Refusal}
use Rattle.fdb_keys.specs.declared.refusal.Refusal.TheVariants.{NoMemory}
use Rattle.fdb_txn.specs.declared.entry.Entry.{Entry}
use Rattle.fdb_client.specs.declared.program.Transcript.{Transcript}
use Rattle.fdb_client.specs.Programs.{is_read_only, commit_request_of}
use Rattle.fdb_roles.specs.Sessions.{submit_fault}
use Rattle.fdb_sections.specs.declared.session_state.settling.Ended.{Ended}
use Rattle.fdb_sections.specs.declared.session_state.settling.Ended.TheVariants.{Acknowledged, ToCommit}
use Rattle.fdb_sections.specs.Receipts.{read_only_receipt}
use Rattle.fdb_sections.specs.Sessions.{Session, IsOpenAt}

-- a transaction that wrote nothing has its receipt on the front, and any other is submitted, as the request that it
-- makes
abbrev pub IsEnded : {B : Type 0} → List Entry → Transcript → Ended B → Type 0
IsEnded front transcript (Acknowledged receipt) =
    (is_read_only transcript ≡ true) × (receipt ≡ read_only_receipt front transcript)
IsEnded front transcript (ToCommit request submitted) =
    (is_read_only transcript ≡ false) × (request ≡ commit_request_of transcript)
    × (submitted.transaction ≡ transcript)

-- The transaction ends on the front, and may be submitted; or it doesn't, because memory ran out or it may not be.
abbrev pub Ends : {B : Type 0} → List Entry → Result (Ended B) Refusal → Transcript → Type 0
Ends front (Ok ended) transcript = IsEnded front transcript ended × (submit_fault transcript ≡ None)
Ends front (Err why) transcript = (why ≡ NoMemory) ⊎ (submit_fault transcript ≡ Some why)

-- what is to be committed is the session's, which may settle it
abbrev pub MaySettle : {B : Type 0} → List Point → Session → Ended B → Type 0
MaySettle splits it (Acknowledged receipt) = ⊤
MaySettle splits it (ToCommit request submitted) =
    IsOpenAt splits it.number it.next_number it.front submitted.transaction
