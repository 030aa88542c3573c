-- Traces: steps with their answers, and the machine that they determine.
use Rattle.std.specs.Prelude.{◌≡◌, ℕ, min, false, filter, slice_get, List, [], ◌∷◌, Option, Some, None, Result, Ok, Err}
use Rattle.fdb_keys.specs.declared.refusal.Refusal.{Refusal}
use Rattle.fdb_proxy.specs.declared.config.Config.{Config}
use Rattle.fdb_client.specs.declared.program.Transcript.{Transcript}
use Rattle.fdb_machine.specs.headline.Readings.{Readings, readings_of, is_of_session, times_begun}
use Rattle.fdb_machine.specs.machine.CommitProxySteps.{is_idle}
use Rattle.fdb_machine.specs.machine.Failures.{State}
use Rattle.fdb_machine.specs.machine.Machine.{Machine}
use Rattle.fdb_machine.specs.machine.Roles.{CommitProxy}
use Rattle.fdb_machine.specs.machine.Sessions.{session_of, open_at, next_number, greatest_number}
use Rattle.fdb_machine.specs.machine.Steps.{next, after}
use Rattle.fdb_machine.specs.machine.Worlds.{start, first_state, IsRun}
use Rattle.fdb_machine.specs.declared.step.Answered.{Answered}
use Rattle.fdb_machine.specs.machine.AnyStep.{Step}

-- the machine after a step with its answer: an accepted step takes it on, a refused one leaves it as it is
abbrev pub after_step : Machine → Step → Result Answered Refusal → Machine
after_step m step (Ok said) = after m (next m step)
after_step m step (Err refusal) = m

-- the machine after steps with their answers
abbrev pub after_steps : Machine → List Step → List (Result Answered Refusal) → Machine
after_steps m [] answers = m
after_steps m (step ∷ steps) [] = m
after_steps m (step ∷ steps) (answer ∷ answers) = after_steps (after_step m step answer) steps answers

-- the machine after the steps of a trace, as a function of the trace
abbrev pub machine_of_trace : Config → List Step → List (Result Answered Refusal) → Machine
machine_of_trace config steps answers = after_steps (start config) steps answers

-- What a world shows stands for a trace: from the first world on, each step of the trace was answered as the trace
-- says, and left the world so in the end.
abbrev pub IsTraceOf : Config → List Step → List (Result Answered Refusal) → State → Type 0
IsTraceOf config steps answers world = IsRun (first_state config) steps answers world

-- a world that stands for a trace shows the machine of the trace
abbrev pub TracesDetermineTheMachine : Type 0
TracesDetermineTheMachine =
    (config : Config) (steps : List Step) (answers : List (Result Answered Refusal)) (world : State)
    → IsTraceOf config steps answers world → world.machine ≡ machine_of_trace config steps answers

-- the transaction alone in a list, which is empty where there is none
abbrev pub alone : Option Transcript → List Transcript
alone None = []
alone (Some transcript) = transcript ∷ []

-- The machine has in its fields what is told: the entries, and the moves since the last one; for each session the open
-- transaction with its operations and replies, which is the only one that is told of it, and as its next number how
-- often it began one, up to the greatest number; those who wait at each commit proxy, the batch that it has in flight,
-- the acknowledged transactions with their spots, the greatest version that was reported, and the window.
pub record HasWhatIsTold (r : Readings) (m : Machine) : Type 0 where
  pub book : m.book ≡ r.book
  pub pending : m.pending ≡ r.pending
  pub opened : (session : ℕ) → filter (is_of_session session) r.opened ≡ alone (open_at m.sessions session)
  pub begun : (session : ℕ)
      → next_number (session_of m.sessions session).last_number ≡ min (times_begun session r.begun) greatest_number
  pub waiting : (proxy : ℕ) (commit_proxy : CommitProxy) → slice_get m.commit_proxies proxy ≡ Some commit_proxy
      → commit_proxy.waiting ≡ r.waiting proxy
  pub in_flight : (proxy : ℕ) (commit_proxy : CommitProxy) → slice_get m.commit_proxies proxy ≡ Some commit_proxy
      → is_idle commit_proxy.stage ≡ false
      → (commit_proxy.entry ≡ (r.sealed proxy).entry) × (commit_proxy.in_flight ≡ (r.sealed proxy).transcripts)
  pub acknowledged : m.acknowledged ≡ r.acknowledged
  pub committed : m.committed ≡ r.reported
  pub window : m.window ≡ r.window

-- a world that stands for a trace shows what the trace tells
abbrev pub WorldsShowWhatIsTold : Type 0
WorldsShowWhatIsTold =
    (config : Config) (steps : List Step) (answers : List (Result Answered Refusal)) (world : State)
    → IsTraceOf config steps answers world → HasWhatIsTold (readings_of steps answers) world.machine
