-- The open transactions whose sets a script shows.
use Rattle.std.specs.Prelude.{ℕ, Option, Some, None, Result, Ok, Err}
use Rattle.fdb_keys.specs.declared.refusal.Refusal.{Refusal}
use Rattle.fdb_keys.specs.declared.refusal.Refusal.TheVariants.{NoTransaction}
use Rattle.fdb_client.specs.declared.program.Transcript.{Transcript}
use Rattle.fdb_machine.specs.machine.Failures.{State}
use Rattle.fdb_machine.specs.machine.Sessions.{open_at}

-- an open transaction, if there is one
abbrev pub opened : Option Transcript → Result Transcript Refusal
opened None = Err NoTransaction
opened (Some transcript) = Ok transcript

-- the session's open transaction, if it has one
abbrev pub lent : State → ℕ → Result Transcript Refusal
lent world session = opened (open_at world.machine.sessions session)
