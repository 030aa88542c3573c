-- What one fault says in other words.
use Rattle.std.proofs.Common.{◌≡◌, Option, Some, Err, ◌∙◌}
use Rattle.fdb_keys.specs.declared.refusal.Refusal.{Refusal}
use Rattle.fdb_play.specs.script.Faults.{MatchFault, Reads}
use Rattle.fdb_play.specs.declared.script.fault.Fault.{Fault}
use Rattle.fdb_play.specs.declared.script.fault.Fault.TheVariants as of

-- where no key is refused
pub MatchFault-bad_alone : (fault : Fault) (bad other : Type 0) (refused : Refusal → Type 0)
    → MatchFault fault bad (λ _. ⊥) → (bad → other) → MatchFault fault other refused
MatchFault-bad_alone of.Bad bad other refused fact f = f fact
MatchFault-bad_alone (of.Refused why) bad other refused fact f = absurd fact
MatchFault-bad_alone of.NoMemory bad other refused fact f = tt

-- where the line isn't bad
pub MatchFault-refused_alone : (fault : Fault) (bad : Type 0) (refused also : Refusal → Type 0)
    → MatchFault fault ⊥ refused → ((why : Refusal) → refused why → also why) → MatchFault fault bad also
MatchFault-refused_alone of.Bad bad refused also fact f = absurd fact
MatchFault-refused_alone (of.Refused why) bad refused also fact f = f why fact
MatchFault-refused_alone of.NoMemory bad refused also fact f = tt

-- the value that is written has the fault that was found
pub Reads-refused : {T : Type 0} (fault : Fault) (found : Option Refusal) (Writes : T → Type 0)
    (fault_in : T → Option Refusal) → MatchFault fault ⊥ (λ why. found ≡ Some why) → (value : T) → Writes value
    → fault_in value ≡ found → Reads (Err fault) Writes fault_in
Reads-refused fault found Writes fault_in refused value written same =
    MatchFault-refused_alone fault _ (λ why. found ≡ Some why) _ refused (λ why is. (value, written, same ∙ is))

-- the fault of a part is that of the whole
pub Reads-whole : {Part Whole : Type 0} (fault : Fault) (PartWrites : Part → Type 0)
    (part_fault : Part → Option Refusal) (Writes : Whole → Type 0) (whole_fault : Whole → Option Refusal)
    → Reads (Err fault) PartWrites part_fault → (((part : Part) → ¬ PartWrites part) → (whole : Whole) → ¬ Writes whole)
    → ((part : Part) → PartWrites part → (whole : Whole) × Writes whole × (whole_fault whole ≡ part_fault part))
    → Reads (Err fault) Writes whole_fault
Reads-whole of.Bad PartWrites part_fault Writes whole_fault found none some = none found
Reads-whole (of.Refused why) PartWrites part_fault Writes whole_fault found none some =
    let whole = some found.0 found.1 in (whole.0, whole.1, whole.2 ∙ found.2)
Reads-whole of.NoMemory PartWrites part_fault Writes whole_fault found none some = tt
