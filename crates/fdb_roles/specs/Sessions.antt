-- What a call on an open transaction answers, and when one is submitted.
use Rattle.std.specs.Prelude.{Option, None, if◌then◌else◌, ◌≡◌, Some, Result, Err, ◌⊎◌, Ok}
use Rattle.fdb_keys.specs.declared.refusal.Refusal.{Refusal}
use Rattle.fdb_keys.specs.declared.refusal.Refusal.TheVariants.{NoTransaction, NoMemory}
use Rattle.fdb_txn.specs.book.Size.{size_fault}
use Rattle.fdb_client.specs.declared.program.Transcript.{Transcript}
use Rattle.fdb_client.specs.Programs.{commit_request_of, is_read_only}
use Rattle.fdb_client.specs.Finishing.{IsFinished}
use Rattle.fdb_client.specs.declared.finished.Finished.{Finished}

-- why an open transaction is not submitted; one that wrote nothing always is
abbrev pub submit_fault : Transcript → Option Refusal
submit_fault transcript = if is_read_only transcript then None else size_fault (commit_request_of transcript)

-- refused where there is none, and else as the property says
abbrev pub OfOpen : {T : Type 0} → Option Transcript → Result T Refusal → (Transcript → Type 0) → Type 0
OfOpen None result P = result ≡ Err NoTransaction
OfOpen (Some transcript) result P = P transcript

-- The transaction is finished, and may be submitted; or it isn't, because memory ran out or it may not be.
abbrev pub Finishes : Result Finished Refusal → Transcript → Type 0
Finishes (Ok finished) transcript = IsFinished transcript finished × (submit_fault transcript ≡ None)
Finishes (Err why) transcript = (why ≡ NoMemory) ⊎ (submit_fault transcript ≡ Some why)
