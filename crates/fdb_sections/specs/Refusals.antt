-- The refusals that a session's calls may answer.
use Rattle.std.specs.Prelude.{Bool, true, false}
use Rattle.fdb_keys.specs.declared.refusal.Refusal.{Refusal}
use Rattle.fdb_keys.specs.declared.refusal.Refusal.TheVariants as refusal

-- of one that begins a transaction: memory ran out, a role failed, all numbers are used, or the database is closed
abbrev pub is_of_begin : Refusal → Bool
is_of_begin refusal.NoMemory = true
is_of_begin refusal.Failed = true
is_of_begin refusal.Exhausted = true
is_of_begin refusal.Closed = true
is_of_begin why = false

-- of one that reads: what it reads is known only once it commits, the version isn't served any more, memory ran out, a
-- role failed, the database is closed, or no transaction is open
abbrev pub is_of_read : Refusal → Bool
is_of_read refusal.AccessedUnreadable = true
is_of_read refusal.TransactionTooOld = true
is_of_read refusal.NoMemory = true
is_of_read refusal.Failed = true
is_of_read refusal.Closed = true
is_of_read refusal.NoTransaction = true
is_of_read why = false
