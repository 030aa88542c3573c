-- What a session's open transaction notes without a reply, as an operation and as a step, and why it is refused.
use Rattle.std.specs.Prelude.{ℕ, Option, None}
use Rattle.fdb_keys.specs.declared.refusal.Refusal.{Refusal}
use Rattle.fdb_mutations.specs.Mutations.{mutation_fault}
use Rattle.fdb_client.specs.declared.program.Op.{Op}
use Rattle.fdb_client.specs.declared.program.Op.TheVariants as op
use Rattle.fdb_machine.specs.machine.AnyStep.{Step}
use Rattle.fdb_machine.specs.declared.step.AnyStep.TheVariants as step
use Rattle.fdb_core.specs.declared.roles.client.note.Note.{Note}
use Rattle.fdb_core.specs.declared.roles.client.note.Note.TheVariants as note

abbrev pub noted_as : Note → Op
noted_as (note.Write mutation) = op.Write mutation.now
noted_as (note.AddRead range) = op.AddRead range.now
noted_as (note.AddWrite range) = op.AddWrite range.now

abbrev pub note_fault : Note → Option Refusal
note_fault (note.Write mutation) = mutation_fault mutation.now
note_fault (note.AddRead range) = None
note_fault (note.AddWrite range) = None

abbrev pub step_with : ℕ → Note → Step
step_with session (note.Write mutation) = step.Write session mutation.now
step_with session (note.AddRead range) = step.AddRead session range.now
step_with session (note.AddWrite range) = step.AddWrite session range.now
