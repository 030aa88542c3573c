-- Steps that are tried one after another, in parts.
use Rattle.std.proofs.Common.{◌≡◌, refl, ◌+◌, ◌-◌, ◌<◌, subst, ℕ, zero, suc, List, [], ◌∷◌, ◌++◌, Result, Ok}
use Rattle.std.proofs.Common.{Err, inl, inr, arith}
use Rattle.fdb_keys.specs.declared.refusal.Refusal.{Refusal}
use Rattle.fdb_machine.specs.declared.in_flight.InFlight.{InFlight}
use Rattle.fdb_machine.specs.declared.step.Answered.{Answered}
use Rattle.fdb_machine.specs.machine.AnyStep.{Step}
use Rattle.fdb_machine.specs.declared.step.AnyStep.TheVariants.{Decide, Report, Answer}
use Rattle.fdb_machine.specs.machine.Failures.{State}
use Rattle.fdb_machine.specs.machine.Worlds.{IsStep}
use Rattle.fdb_play.specs.play.Driving.{AreAccepted, AreRefused, DrivesWhole, for_each, log_steps, resolver_steps}
use Rattle.fdb_play.specs.play.Driving.{steps_before_answer}

-- two parts are accepted
pub accepted_both : (old mid new : State) (front back : List Step) → AreAccepted old front mid
    → AreAccepted mid back new → AreAccepted old (front ++ back) new
accepted_both old mid new [] back one other = subst (λ (at : State). AreAccepted at back new) one other
accepted_both old mid new (step ∷ steps) back one other =
    (one.0, one.1, one.2, accepted_both one.1 mid new steps back one.3 other)

-- the first part is accepted, and the second one is refused
pub refused_after : (old mid new : State) (front back : List Step) (why : Refusal) → AreAccepted old front mid
    → AreRefused mid back why new → AreRefused old (front ++ back) why new
refused_after old mid new [] back why one other = subst (λ (at : State). AreRefused at back why new) one other
refused_after old mid new (step ∷ steps) back why one other = inr
    (one.0, one.1, one.2, refused_after one.1 mid new steps back why one.3 other)

-- the first part is refused
pub refused_before : (old new : State) (front back : List Step) (why : Refusal) → AreRefused old front why new
    → AreRefused old (front ++ back) why new
refused_before old new [] back why refused = absurd refused
refused_before old new (step ∷ steps) back why (inl at) = inl at
refused_before old new (step ∷ steps) back why (inr on) = inr
    (on.0, on.1, on.2, refused_before on.1 new steps back why on.3)

-- the steps of the first roles are refused, and so are those of more of them
pub refused_among : (steps : ℕ → List Step) (old new : State) (why : Refusal) (n more : ℕ)
    → AreRefused old (for_each steps n) why new → AreRefused old (for_each steps (more + n)) why new
refused_among steps old new why n zero refused =
    let same : n ≡ zero + n = omega arith in
    subst (λ (count : ℕ). AreRefused old (for_each steps count) why new) same refused
refused_among steps old new why n (suc more) refused =
    let same : suc (more + n) ≡ suc more + n = omega arith in
    subst (λ (count : ℕ). AreRefused old (for_each steps count) why new) same
    (refused_before old new (for_each steps (more + n)) (steps (more + n)) why
    (refused_among steps old new why n more refused))

-- one of the roles is reached, and refuses a step
pub refused_at : (steps : ℕ → List Step) (old mid new : State) (why : Refusal) (i n : ℕ) → i < n
    → AreAccepted old (for_each steps i) mid → AreRefused mid (steps i) why new
    → AreRefused old (for_each steps n) why new
refused_at steps old mid new why i n below accepted refused =
    let whole : (n - suc i) + suc i ≡ n = omega arith in
    subst (λ (count : ℕ). AreRefused old (for_each steps count) why new) whole
    (refused_among steps old new why (suc i) (n - suc i)
    (refused_after old mid new (for_each steps i) (steps i) why accepted refused))

-- one step is accepted, and the next one is refused
pub second_refused : (old mid new : State) (first second : Step) (said : Answered) (why : Refusal)
    → IsStep old first (Ok said) mid → IsStep mid second (Err why) new
    → AreRefused old (first ∷ second ∷ []) why new
second_refused old mid new first second said why one other = inr (said, mid, one, inl other)

-- one step that is accepted
pub one_accepted : (old new : State) (step : Step) (said : Answered) → IsStep old step (Ok said) new
    → AreAccepted old (step ∷ []) new
one_accepted old new step said is = (said, new, is, refl)

-- of five parts, the first one that is refused
pub refused_first : (old new : State) (a b c d e : List Step) (why : Refusal) → AreRefused old a why new
    → AreRefused old (a ++ b ++ c ++ d ++ e) why new
refused_first old new a b c d e why refused =
    refused_before old new (a ++ b ++ c ++ d) e why
    (refused_before old new (a ++ b ++ c) d why
    (refused_before old new (a ++ b) c why (refused_before old new a b why refused)))

pub refused_second : (old at new : State) (a b c d e : List Step) (why : Refusal) → AreAccepted old a at
    → AreRefused at b why new → AreRefused old (a ++ b ++ c ++ d ++ e) why new
refused_second old at new a b c d e why first refused =
    refused_before old new (a ++ b ++ c ++ d) e why
    (refused_before old new (a ++ b ++ c) d why
    (refused_before old new (a ++ b) c why (refused_after old at new a b why first refused)))

pub refused_third : (old at on new : State) (a b c d e : List Step) (why : Refusal) → AreAccepted old a at
    → AreAccepted at b on → AreRefused on c why new → AreRefused old (a ++ b ++ c ++ d ++ e) why new
refused_third old at on new a b c d e why first second refused =
    refused_before old new (a ++ b ++ c ++ d) e why
    (refused_before old new (a ++ b ++ c) d why
    (refused_after old on new (a ++ b) c why (accepted_both old at on a b first second) refused))

pub refused_fourth : (old at on by new : State) (a b c d e : List Step) (why : Refusal) → AreAccepted old a at
    → AreAccepted at b on → AreAccepted on c by → AreRefused by d why new
    → AreRefused old (a ++ b ++ c ++ d ++ e) why new
refused_fourth old at on by new a b c d e why first second third refused =
    refused_before old new (a ++ b ++ c ++ d) e why
    (refused_after old by new (a ++ b ++ c) d why
    (accepted_both old on by (a ++ b) c (accepted_both old at on a b first second) third) refused)

-- what the step after the others answers
last-answers : (proxy : ℕ) (flight : InFlight) (old mid new : State) (result : Result Answered Refusal)
    → AreAccepted old (steps_before_answer proxy flight) mid → IsStep mid (Answer proxy) result new
    → DrivesWhole proxy flight old result new
last-answers proxy flight old mid new (Ok said) accepted is = (mid, accepted, is)
last-answers proxy flight old mid new (Err why) accepted is = refused_after old mid new
    (steps_before_answer proxy flight) (Answer proxy ∷ []) why accepted (inl is)

pub answered_last : (proxy : ℕ) (flight : InFlight) (old at on by mid new : State)
    (result : Result Answered Refusal)
    → AreAccepted old (for_each (resolver_steps flight.entry) flight.resolvers) at
    → AreAccepted at (Decide proxy ∷ []) on
    → AreAccepted on (for_each (log_steps flight.entry) flight.logs) by → AreAccepted by (Report proxy ∷ []) mid
    → IsStep mid (Answer proxy) result new → DrivesWhole proxy flight old result new
answered_last proxy flight old at on by mid new result first second third fourth is =
    last-answers proxy flight old mid new result
    (accepted_both old by mid _ (Report proxy ∷ [])
    (accepted_both old on by _ (for_each (log_steps flight.entry) flight.logs)
    (accepted_both old at on _ (Decide proxy ∷ []) first second) third)
    fourth)
    is
