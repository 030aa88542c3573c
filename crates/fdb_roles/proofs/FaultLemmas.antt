-- What follows from how a call answered.
use Rattle.std.proofs.Common.{◌≡◌, refl, Option, Some, None, Ok, ap, sym, Err, subst, Result}
use Rattle.fdb_keys.specs.Answers.{Answers, AnswersExactly}
use Rattle.fdb_keys.specs.declared.refusal.Refusal.{Refusal}
use Rattle.fdb_keys.specs.declared.refusal.Refusal.TheVariants.{NoMemory}

-- a call that gave something had no fault
pub answers-fault : {T : Type 0} (fault : Option Refusal) (given : T) (P : T → Type 0) → Answers (Ok given) fault P
    → (fault ≡ None) × P given
answers-fault None given P answers = (refl, answers)
answers-fault (Some why) given P answers = absurd answers

-- one that takes no memory too
pub given-fault : {T : Type 0} (fault : Option Refusal) (given : T) (P : T → Type 0) → AnswersExactly (Ok given) fault P
    → (fault ≡ None) × P given
given-fault None given P answers = (refl, answers)
given-fault (Some why) given P answers = absurd answers

-- and one that refused had the fault that it names
pub refused-fault : {T : Type 0} (fault : Option Refusal) (why : Refusal) (P : T → Type 0)
    → AnswersExactly (Err why) fault P → fault ≡ Some why
refused-fault None why P answers = absurd answers
refused-fault (Some other) why P answers = ap (λ (it : Refusal). Some it) (sym answers)

-- a call without a fault that refused lacked memory
pub lacks-memory : {T : Type 0} (fault : Option Refusal) (why : Refusal) (Q : T → Type 0) → fault ≡ None
    → Answers (Err why) fault Q → why ≡ NoMemory
lacks-memory {T} fault why Q none answers =
    subst (λ (f : Option Refusal). Answers {T = T} (Err why) f Q) none answers

-- who hands a refusal on was refused for the same reason
pub hands-on : {T U : Type 0} (why : Refusal) (fault same : Option Refusal) (P : T → Type 0) (Q : U → Type 0)
    → fault ≡ same → Answers {T = T} (Err why) fault P → Answers {T = U} (Err why) same Q
hands-on {T} {U} why fault same P Q is answers = by_fault same
    (subst (λ (f : Option Refusal). Answers {T = T} (Err why) f P) is answers)
  where
    by_fault : (f : Option Refusal) → Answers {T = T} (Err why) f P → Answers {T = U} (Err why) f Q
    by_fault None refused = refused
    by_fault (Some fault) refused = refused

-- what was given without a fault
pub gives : {T : Type 0} (fault : Option Refusal) (given : T) (P : T → Type 0) → fault ≡ None → P given
    → Answers (Ok given) fault P
gives {T} fault given P none holds = subst (λ (f : Option Refusal). Answers {T = T} (Ok given) f P) (sym none) holds

-- what was answered by a fault is answered by an equal one, with what follows where there is none
pub answers-by : {T : Type 0} (result : Result T Refusal) (fault same : Option Refusal) (P Q : T → Type 0)
    → fault ≡ same → (same ≡ None → (given : T) → P given → Q given) → Answers result fault P → Answers result same Q
answers-by {T} result fault same P Q is follows answers = by_fault result same
    (subst (λ (f : Option Refusal). Answers {T = T} result f P) is answers) follows
  where
    by_fault : (r : Result T Refusal) (f : Option Refusal) → Answers r f P
        → (f ≡ None → (given : T) → P given → Q given) → Answers r f Q
    by_fault (Ok given) None answered next = next refl given answered
    by_fault (Ok given) (Some why) answered next = answered
    by_fault (Err why) None answered next = answered
    by_fault (Err why) (Some other) answered next = answered
