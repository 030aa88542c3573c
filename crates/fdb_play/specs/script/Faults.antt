-- Why a line is not read.
use Rattle.std.specs.Prelude.{◌≡◌, Option, Some, None, Result, MatchResult}
use Rattle.fdb_keys.specs.declared.refusal.Refusal.{Refusal}
use Rattle.fdb_keys.specs.declared.refusal.Refusal.TheVariants.{NoMemory}
use Rattle.fdb_play.specs.declared.script.fault.Fault.{Fault}
use Rattle.fdb_play.specs.declared.script.fault.Fault.TheVariants as fault

-- the fault of a line whose key is refused: that memory ran out is a fault of its own
abbrev pub fault_of : Refusal → Fault
fault_of NoMemory = fault.NoMemory
fault_of why = fault.Refused why

-- what a fault says: one fact of a bad line, one of a key that is refused. That memory ran out says nothing
abbrev pub MatchFault : Fault → Type 0 → (Refusal → Type 0) → Type 0
MatchFault fault.Bad bad refused = bad
MatchFault (fault.Refused why) bad refused = refused why
MatchFault fault.NoMemory bad refused = Unit {0}

-- A value is read where it is written and has no fault, and refused where it is written and has that
-- fault. Bad is what writes no value at all. Memory may always run out.
abbrev pub Reads : {T : Type 0} → Result T Fault → (T → Type 0) → (T → Option Refusal) → Type 0
Reads {T = T} result Writes fault_in =
    MatchResult result (λ value. Writes value × (fault_in value ≡ None))
    (λ fault. MatchFault fault ((value : T) → ¬ Writes value)
    (λ why. (value : T) × Writes value × (fault_in value ≡ Some why)))
