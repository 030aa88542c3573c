-- What a call answers, exact both ways.
use Rattle.std.specs.Prelude.{◌≡◌, Bool, true, false, Option, Some, None, Result, Ok, Err, if◌then◌else◌}
use Rattle.fdb_keys.specs.declared.refusal.Refusal.{Refusal}
use Rattle.fdb_keys.specs.declared.refusal.Refusal.TheVariants.{NoMemory}
use Rattle.fdb_keys.specs.declared.refusal.Refused.{Refused}

-- The call is refused exactly where there is a fault, with that fault. Without one it may still
-- lack memory, and otherwise what it gives has the property.
abbrev pub Answers : {T : Type 0} → Result T Refusal → Option Refusal → (T → Type 0) → Type 0
Answers (Ok given) None P = P given
Answers (Ok given) (Some fault) P = ⊥
Answers (Err why) None P = why ≡ NoMemory
Answers (Err why) (Some fault) P = why ≡ fault

-- The same where a refusal hands back what the call was given.
abbrev pub AnswersOrHandsBack : {T B : Type 0} → Result T (Refused B) → B → Option Refusal → (T → Type 0) → Type 0
AnswersOrHandsBack (Ok given) back None P = P given
AnswersOrHandsBack (Ok given) back (Some fault) P = ⊥
AnswersOrHandsBack (Err refused) back None P = (refused.why ≡ NoMemory) × (refused.back ≡ back)
AnswersOrHandsBack (Err refused) back (Some fault) P = (refused.why ≡ fault) × (refused.back ≡ back)

-- The call is refused exactly where there is a fault, with that fault. It takes no memory.
abbrev pub AnswersExactly : {T : Type 0} → Result T Refusal → Option Refusal → (T → Type 0) → Type 0
AnswersExactly (Ok given) None P = P given
AnswersExactly (Ok given) (Some fault) P = ⊥
AnswersExactly (Err why) None P = ⊥
AnswersExactly (Err why) (Some fault) P = why ≡ fault

-- The same where a refusal hands back what the call was given.
abbrev pub AnswersExactlyOrHandsBack : {T B : Type 0}
    → Result T (Refused B) → B → Option Refusal → (T → Type 0) → Type 0
AnswersExactlyOrHandsBack (Ok given) back None P = P given
AnswersExactlyOrHandsBack (Ok given) back (Some fault) P = ⊥
AnswersExactlyOrHandsBack (Err refused) back None P = ⊥
AnswersExactlyOrHandsBack (Err refused) back (Some fault) P = (refused.why ≡ fault) × (refused.back ≡ back)

-- the fault of a call, unless memory ran out before it could be known
abbrev pub unless_memory : {T B : Type 0} → Result T (Refused B) → Option Refusal → Option Refusal
unless_memory (Ok given) fault = fault
unless_memory (Err refused) fault = if is_out_of_memory refused.why then None else fault
  where
    is_out_of_memory : Refusal → Bool
    is_out_of_memory NoMemory = true
    is_out_of_memory why = false
