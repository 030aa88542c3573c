-- What a call's answer says of its fault.
use Rattle.std.proofs.Common.{◌≡◌, refl, Option, Some, None, Result, Ok, Err}
use Rattle.std.specs.Prelude.{IfOk}
use Rattle.fdb_keys.specs.Answers.{Answers, AnswersExactly}
use Rattle.fdb_keys.specs.declared.refusal.Refusal.{Refusal}
use Rattle.fdb_keys.specs.declared.refusal.Refusal.TheVariants.{NoMemory}

-- a call that gave something had no fault, and what it gave is as it says
pub given : {T : Type 0} (x : T) (fault : Option Refusal) (P : T → Type 0) → Answers (Ok x) fault P
    → (fault ≡ None) × P x
given x None P answered = (refl, answered)
given x (Some why) P answered = absurd answered

-- a call that is refused as another one was, for the same fault
pub refused : {T U : Type 0} (why : Refusal) (fault : Option Refusal) (P : T → Type 0) (Q : U → Type 0)
    → Answers (Err why) fault P → Answers (Err why) fault Q
refused why None P Q answered = answered
refused why (Some other) P Q answered = answered

-- a call without a fault where memory ran out
pub out_of_memory : {T : Type 0} (why : Refusal) (fault : Option Refusal) (P : T → Type 0) → fault ≡ None
    → why ≡ NoMemory → Answers (Err why) fault P
out_of_memory why fault P none ran_out = rw none ran_out

-- a call that takes no memory and is refused has that fault
pub checked : {T U : Type 0} (why : Refusal) (fault : Option Refusal) (P : T → Type 0) (Q : U → Type 0)
    → AnswersExactly (Err why) fault P → Answers (Err why) fault Q
checked why None P Q answered = absurd answered
checked why (Some other) P Q answered = answered

-- and one that isn't has none
pub faultless : {T : Type 0} (x : T) (fault : Option Refusal) (P : T → Type 0)
    → AnswersExactly (Ok x) fault P → fault ≡ None
faultless x None P answered = refl
faultless x (Some why) P answered = absurd answered

-- what a call gave, in other words
pub same_fault : {T : Type 0} (result : Result T Refusal) (fault : Option Refusal) (P Q : T → Type 0)
    → ((x : T) → P x → Q x) → Answers result fault P → Answers result fault Q
same_fault (Ok x) None P Q says answered = says x answered
same_fault (Ok x) (Some why) P Q says answered = absurd answered
same_fault (Err why) None P Q says answered = answered
same_fault (Err why) (Some other) P Q says answered = answered

-- what a call gave as a part of what another one gave
pub part_given : {T U : Type 0} (x : T) (y : U) (fault : Option Refusal) (P : T → Type 0) (Q : U → Type 0)
    → (P x → Q y) → Answers (Ok x) fault P → Answers (Ok y) fault Q
part_given x y None P Q says answered = says answered
part_given x y (Some why) P Q says answered = absurd answered

-- and what two clauses say of it together
pub with_both : {T : Type 0} (result : Result T Refusal) (P Also Q : T → Type 0) → ((x : T) → Also x → P x → Q x)
    → Answers result None P → IfOk result Also → Answers result None Q
with_both (Ok x) P Also Q says answered also = says x also answered
with_both (Err why) P Also Q says answered also = answered

-- a call without a fault that was refused lacked memory
pub lacked_memory : {T : Type 0} (why : Refusal) (fault : Option Refusal) (P : T → Type 0) → fault ≡ None
    → Answers (Err why) fault P → why ≡ NoMemory
lacked_memory why fault P none answered = rw none at answered
