-- Runs of steps, one step longer, and what they are for the machine alone.
use Rattle.std.proofs.Common.{◌≡◌, ◌⊎◌, refl, sym, ap, subst, inl, inr, ⊎_elim, Bool, true, false, List, [], ◌∷◌, ◌++◌}
use Rattle.std.proofs.Common.{Result, Ok, Err}
use Rattle.fdb_keys.specs.declared.refusal.Refusal.{Refusal}
use Rattle.fdb_keys.specs.declared.refusal.Refusal.TheVariants.{NoMemory, Failed, Unknown}
use Rattle.fdb_machine.specs.machine.Failures.{State, uses_failed, unless_failed}
use Rattle.fdb_machine.specs.machine.Machine.{Machine, Transition}
use Rattle.fdb_machine.specs.machine.Steps.{next, answer_of, after}
use Rattle.fdb_machine.specs.machine.Worlds.{IsStep, IsRun}
use Rattle.fdb_machine.specs.declared.step.Answered.{Answered}
use Rattle.fdb_machine.specs.machine.AnyStep.{Step}

-- a run goes on by one step
pub run-push : (old mid new : State) (steps : List Step) (answers : List (Result Answered Refusal))
    (step : Step) (answer : Result Answered Refusal)
    → IsRun old steps answers mid → IsStep mid step answer new
    → IsRun old (steps ++ step ∷ []) (answers ++ answer ∷ []) new
run-push old mid new [] [] step answer ran taken =
    (new, subst (λ (state : State). IsStep state step answer new) ran taken, refl)
run-push old mid new [] (a ∷ others) step answer ran taken = absurd ran
run-push old mid new (s ∷ ss) [] step answer ran taken = absurd ran
run-push old mid new (s ∷ ss) (a ∷ others) step answer ran taken =
    (ran.0, ran.1, run-push ran.0 mid new ss others step answer ran.2 taken)

-- a run that is one step longer is a run, and then that step
pub run-last : (old new : State) (steps : List Step) (answers : List (Result Answered Refusal))
    (step : Step) (answer : Result Answered Refusal)
    → IsRun old (steps ++ step ∷ []) (answers ++ answer ∷ []) new
    → (mid : State) × IsRun old steps answers mid × IsStep mid step answer new
run-last old new [] [] step answer ran =
    (old, refl, subst (IsStep old step answer) (sym ran.2) ran.1)
run-last old new [] (a ∷ []) step answer ran = absurd ran.2
run-last old new [] (a ∷ b ∷ others) step answer ran = absurd ran.2
run-last old new (s ∷ []) [] step answer ran = absurd ran.2
run-last old new (s ∷ t ∷ ss) [] step answer ran = absurd ran.2
run-last old new (s ∷ ss) (a ∷ others) step answer ran =
    let rest = run-last ran.0 new ss others step answer ran.2 in (rest.0, (ran.0, ran.1, rest.1), rest.2)

-- For the machine alone a step is answered and leaves it as the machine says, or is refused and leaves it as it was.
abbrev pub IsMachineStep : Machine → Step → Result Answered Refusal → Machine → Type 0
IsMachineStep m step result new =
    ((result ≡ answer_of (next m step)) × (new ≡ after m (next m step)))
    ⊎ ((why : Refusal) × (result ≡ Err why) × (new ≡ m))

pub machine-step : (old : State) (step : Step) (result : Result Answered Refusal) (new : State)
    → IsStep old step result new → IsMachineStep old.machine step result new.machine
machine-step old step result new stepped = ⊎_elim
    (λ went. by_use (uses_failed old.machine old.failed step) (next old.machine step) went.0
    (ap (λ (state : State). state.machine) went.1))
    (λ lacked. inr (NoMemory, lacked.0, lacked.1.0))
    stepped
  where
    m : Machine
    m = old.machine

    by_use : (uses : Bool) (transition : Result Transition Refusal) → result ≡ answer_of (unless_failed uses transition)
        → new.machine ≡ after m (unless_failed uses transition)
        → ((result ≡ answer_of transition) × (new.machine ≡ after m transition))
        ⊎ ((why : Refusal) × (result ≡ Err why) × (new.machine ≡ m))
    by_use false transition answer left = inl (answer, left)
    by_use true (Ok transition) answer left = inr (Failed, answer, left)
    by_use true (Err Unknown) answer left = inr (Unknown, answer, left)
    by_use true (Err why) answer left = inr (Failed, answer, left)

-- of a run's first step the machine is left so
pub run-next : (old new : State) (one_step : Step) (answer : Result Answered Refusal) (steps : List Step)
    (answers : List (Result Answered Refusal)) → IsRun old (one_step ∷ steps) (answer ∷ answers) new
    → (mid : State) × IsMachineStep old.machine one_step answer mid.machine × IsRun mid steps answers new
run-next old new one_step answer steps answers ran =
    (ran.0, machine-step old one_step answer ran.0 ran.1, ran.2)
