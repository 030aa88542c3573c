-- Traces: what every step keeps holds after any of them, and they tell the machine.
use Rattle.std.proofs.Common.{◌≡◌, ◌∙◌, sym, ap, refl, ℕ, zero, suc, List, [], ◌∷◌, take, drop, Result, Ok, Err, ⊎_elim}
use Rattle.fdb_keys.specs.declared.refusal.Refusal.{Refusal}
use Rattle.fdb_machine.specs.machine.Failures.{State}
use Rattle.fdb_machine.specs.machine.Machine.{Machine, Transition}
use Rattle.fdb_machine.specs.machine.Steps.{next, answer_of, after}
use Rattle.fdb_machine.specs.headline.Traces.{after_step, after_steps, TracesDetermineTheMachine}
use Rattle.fdb_machine.specs.machine.Worlds.{first_state, IsRun}
use Rattle.fdb_machine.proofs.headline.RunsLemmas.{IsMachineStep, run-next}
use Rattle.fdb_machine.specs.declared.step.Answered.{Answered}
use Rattle.fdb_machine.specs.machine.AnyStep.{Step}

-- what every step keeps holds after any step with any answer
kept-after_step : (P : Machine → Type 0) → ((m : Machine) (one_step : Step) → P m → P (after m (next m one_step)))
    → (m : Machine) (one_step : Step) (answer : Result Answered Refusal) → P m → P (after_step m one_step answer)
kept-after_step P keeps m one_step (Ok said) holds = keeps m one_step holds
kept-after_step P keeps m one_step (Err refusal) holds = holds

-- and after any list of them
pub kept-after_steps : (P : Machine → Type 0) → ((m : Machine) (one_step : Step) → P m → P (after m (next m one_step)))
    → (m : Machine) (steps : List Step) (given : List (Result Answered Refusal)) → P m → P (after_steps m steps given)
kept-after_steps P keeps m [] given holds = holds
kept-after_steps P keeps m (one_step ∷ steps) [] holds = holds
kept-after_steps P keeps m (one_step ∷ steps) (answer ∷ given) holds =
    kept-after_steps P keeps (after_step m one_step answer) steps given
    (kept-after_step P keeps m one_step answer holds)

-- steps without answers take the machine nowhere
after_steps-unanswered : (m : Machine) (steps : List Step) → after_steps m steps [] ≡ m
after_steps-unanswered m [] = refl
after_steps-unanswered m (one_step ∷ steps) = refl

-- a trace is its first steps, and then the others
pub after_steps-parts : (n : ℕ) (m : Machine) (steps : List Step) (given : List (Result Answered Refusal))
    → after_steps (after_steps m (take n steps) (take n given)) (drop n steps) (drop n given) ≡ after_steps m steps
    given
after_steps-parts zero m steps given = refl
after_steps-parts (suc n) m [] given = refl
after_steps-parts (suc n) m (one_step ∷ steps) [] = after_steps-unanswered m (drop n steps)
after_steps-parts (suc n) m (one_step ∷ steps) (answer ∷ given) =
    after_steps-parts n (after_step m one_step answer) steps given

-- with the machine's own answer a step takes the machine on
pub after_step-answered : (m : Machine) (one_step : Step) (transition : Result Transition Refusal)
    → next m one_step ≡ transition
    → after_step m one_step (answer_of transition) ≡ after m (next m one_step)
after_step-answered m one_step (Ok transition) is = refl
after_step-answered m one_step (Err refusal) is = ap (after m) (sym is)

-- a run leaves the machine to which its steps with their answers take it
run-after_steps : (old new : State) (steps : List Step) (given : List (Result Answered Refusal))
    → IsRun old steps given new → new.machine ≡ after_steps old.machine steps given
run-after_steps old new [] [] ran = ap (λ (state : State). state.machine) ran
run-after_steps old new [] (answer ∷ given) ran = absurd ran
run-after_steps old new (one_step ∷ steps) [] ran = absurd ran
run-after_steps old new (one_step ∷ steps) (answer ∷ given) ran =
    let first = run-next old new one_step answer steps given ran in
    run-after_steps first.0 new steps given first.2
    ∙ ap (λ (m : Machine). after_steps m steps given) (one first.0.machine first.1)
  where
    one : (mid : Machine) → IsMachineStep old.machine one_step answer mid → mid ≡ after_step old.machine one_step answer
    one mid step = ⊎_elim
        (λ went. went.1 ∙ sym (ap (after_step old.machine one_step) went.0
        ∙ after_step-answered old.machine one_step (next old.machine one_step) refl))
        (λ refused. refused.2 ∙ ap (after_step old.machine one_step) (sym refused.1))
        step

pub traces_tell : TracesDetermineTheMachine
traces_tell config steps given world stands = run-after_steps (first_state config) world steps given stands
