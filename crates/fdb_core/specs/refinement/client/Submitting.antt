-- A session's transaction comes to a commit proxy.
use Rattle.std.specs.Prelude.{◌≡◌, ◌⊎◌, ℕ, true, false, List, [], ◌∷◌, ◌++◌, Option, Some, None, Result, Ok, Err}
use Rattle.fdb_keys.specs.declared.refusal.Refusal.{Refusal}
use Rattle.fdb_keys.specs.declared.refusal.Refusal.TheVariants.{NoMemory}
use Rattle.fdb_client.specs.declared.finished.Finished.{Finished}
use Rattle.fdb_client.specs.declared.program.Transcript.{Transcript}
use Rattle.fdb_client.specs.Programs.{commit_request_of, is_read_only}
use Rattle.fdb_proxy.specs.CommitProxies.{CommitProxy, submitting}
use Rattle.fdb_roles.specs.Sessions.{submit_fault, OfOpen, Finishes}
use Rattle.fdb_machine.specs.machine.Sessions.{Sessions, Idle, Waiting, open_at, with_state}

-- The session's open transaction is finished. One that wrote nothing is handed out, and any other waits at the proxy,
-- with its transcript. A refusal is one of the transaction, or that memory ran out, and leaves all as it was.
abbrev pub Submits : ℕ → Sessions → CommitProxy → List Transcript → Result (Option Transcript) Refusal → Sessions
    → CommitProxy → List Transcript → Type 0
Submits session before proxy waiting (Err why) after later left =
    ((why ≡ NoMemory) ⊎ OfOpen {T = Finished} (open_at before session) (Err why) (Finishes (Err why)))
    × (after ≡ before) × (later ≡ proxy) × (left ≡ waiting)
Submits session before proxy waiting (Ok (Some transcript)) after later left =
    (open_at before session ≡ Some transcript) × (is_read_only transcript ≡ true)
    × (after ≡ with_state before session Idle) × (later ≡ proxy) × (left ≡ waiting)
Submits session before proxy waiting (Ok None) after later left =
    (transcript : Transcript) × (open_at before session ≡ Some transcript) × (is_read_only transcript ≡ false)
    × (submit_fault transcript ≡ None) × (after ≡ with_state before session Waiting)
    × (later ≡ submitting proxy (commit_request_of transcript)) × (left ≡ waiting ++ transcript ∷ [])
