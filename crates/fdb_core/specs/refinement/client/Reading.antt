-- What a session's open transaction reads, as an operation and as a step, and why the call is refused.
use Rattle.std.specs.Prelude.{ℕ, Bool, List, Option, None, Result}
use Rattle.std.specs.Option.{option_or}
use Rattle.fdb_keys.specs.declared.refusal.Refusal.{Refusal}
use Rattle.fdb_keys.specs.Points.{Point}
use Rattle.fdb_keys.specs.Ranges.{Range}
use Rattle.fdb_mutations.specs.Maps.{Map}
use Rattle.fdb_client.specs.declared.program.Op.{Op}
use Rattle.fdb_client.specs.declared.program.Op.TheVariants as op
use Rattle.fdb_client.specs.Programs.{copy}
use Rattle.fdb_client.specs.Unreadable.{get_fault, scan_fault, unless_out}
use Rattle.fdb_core.specs.declared.roles.client.read.Read.{Read}
use Rattle.fdb_core.specs.declared.roles.client.read.Read.TheVariants as read
use Rattle.fdb_machine.specs.machine.AnyStep.{Step}
use Rattle.fdb_machine.specs.declared.step.AnyStep.TheVariants as step

abbrev pub operation_of : Read → Bool → Op
operation_of (read.Key key) snapshot = op.Get key.now snapshot
operation_of (read.Range range limit is_reverse) snapshot = op.Range range.now limit is_reverse snapshot

abbrev pub step_of : ℕ → Read → Bool → Step
step_of session (read.Key key) snapshot = step.Get session key.now snapshot
step_of session (read.Range range limit is_reverse) snapshot = step.GetRange session range.now limit is_reverse snapshot

-- Why a call that reads is refused after the earlier operations: as the machine refuses it, but that memory may run out
-- before it is known what a read of a range scans.
abbrev pub call_fault : {T : Type 0} → Result T Refusal → (Point → Option Refusal) → (Range → Option Refusal) → Map
    → List Op → Op → Option Refusal
call_fault result key_fault range_fault there earlier (op.Get key snapshot) = get_fault earlier key (key_fault key)
call_fault result key_fault range_fault there earlier (op.Range range limit is_reverse snapshot) =
    option_or (range_fault range) (unless_out result (scan_fault (copy there earlier) earlier range limit is_reverse))
call_fault result key_fault range_fault there earlier operation = None
