-- What a refusal tells of the transaction that met it.
use Rattle.std.specs.Prelude.{Bool, true, false}
use Rattle.fdb_keys.specs.declared.refusal.Refusal.{Refusal}
use Rattle.fdb_keys.specs.declared.refusal.Refusal.TheVariants.{TransactionTooOld, FutureVersion, NotCommitted}
use Rattle.fdb_keys.specs.declared.refusal.Refusal.TheVariants.{CommitUnknownResult}

-- it isn't committed, and may be once all of it is tried anew
abbrev pub is_retryable : Refusal → Bool
is_retryable TransactionTooOld = true
is_retryable FutureVersion = true
is_retryable NotCommitted = true
is_retryable why = false

-- it may have been committed or not
abbrev pub is_maybe_committed : Refusal → Bool
is_maybe_committed CommitUnknownResult = true
is_maybe_committed why = false
