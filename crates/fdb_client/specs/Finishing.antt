-- How a transaction ends.
use Rattle.std.specs.Prelude.{◌≡◌, ◌⊎◌, Option, Some, None, Result, Ok, Err, if◌then◌else◌}
use Rattle.fdb_keys.specs.Answers.{unless_memory}
use Rattle.fdb_keys.specs.declared.refusal.Refusal.{Refusal}
use Rattle.fdb_keys.specs.declared.refusal.Refusal.TheVariants.{NoMemory}
use Rattle.fdb_keys.specs.declared.refusal.Refused.{Refused}
use Rattle.fdb_txn.specs.book.Size.{size_fault}
use Rattle.fdb_txn.specs.book.Transactions.{Transaction}
use Rattle.fdb_client.specs.declared.finished.Finished.{Finished}
use Rattle.fdb_client.specs.declared.finished.Finished.TheVariants.{ReadOnly, ToCommit}
use Rattle.fdb_client.specs.declared.program.Transcript.{Transcript}
use Rattle.fdb_client.specs.Programs.{is_read_only, commit_request_of}

-- why a transaction is not finished, unless memory ran out before that was known; one that wrote nothing always is
abbrev pub finish_fault : {B : Type 0} → Result Finished (Refused B) → Transcript → Option Refusal
finish_fault result transcript =
    if is_read_only transcript then None else unless_memory result (size_fault (commit_request_of transcript))

-- what is left to do of a transaction
abbrev pub IsFinished : Transcript → Finished → Type 0
IsFinished transcript finished =
    finished ≡ (if is_read_only transcript then ReadOnly transcript
    else ToCommit (commit_request_of transcript) transcript)

-- What a transaction asks to commit, which isn't too large. It isn't made where it is, or where memory ran out.
abbrev pub AsksFor : Transcript → Result Transaction Refusal → Type 0
AsksFor transcript (Ok request) =
    (request ≡ commit_request_of transcript) × (size_fault (commit_request_of transcript) ≡ None)
AsksFor transcript (Err why) = (why ≡ NoMemory) ⊎ (size_fault (commit_request_of transcript) ≡ Some why)
