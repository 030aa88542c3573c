-- What a session tells of the size of its open transaction.
use Rattle.std.specs.Prelude.{◌≡◌, ◌⊎◌, ℕ, Some, None, Result, Ok, Err}
use Rattle.fdb_keys.specs.declared.refusal.Refusal.{Refusal}
use Rattle.fdb_keys.specs.declared.refusal.Refusal.TheVariants.{NoMemory}
use Rattle.fdb_txn.specs.book.Size.{size_fault, size_of}
use Rattle.fdb_client.specs.Programs.{commit_request_of}
use Rattle.fdb_client.specs.declared.program.Transcript.{Transcript}

-- How many bytes it would ask to commit. Refused where they are too many, and where memory ran out.
abbrev pub TellsSize : Result ℕ Refusal → Transcript → Type 0
TellsSize (Ok size) transcript =
    (size ≡ size_of (commit_request_of transcript)) × (size_fault (commit_request_of transcript) ≡ None)
TellsSize (Err why) transcript = (why ≡ NoMemory) ⊎ (size_fault (commit_request_of transcript) ≡ Some why)
