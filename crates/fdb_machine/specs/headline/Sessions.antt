-- What a session is at is where it is: it asks exactly where it is among those who ask at a read-version proxy, and
-- waits exactly where one of its transactions waits at a commit proxy or is in a batch in flight.
use Rattle.std.specs.Prelude.{◌≡◌, ◌↔◌, ◌≤◌, ℕ, ◌+◌, Bool, true, ◌||◌, ◌==◌, List, Some, Result, Err, slice_get, sum_by}
use Rattle.std.specs.List.{list_any, count_by}
use Rattle.fdb_keys.specs.declared.refusal.Refusal.{Refusal}
use Rattle.fdb_keys.specs.declared.refusal.Refusal.TheVariants.{WrongState}
use Rattle.fdb_proxy.specs.declared.config.Config.{Config}
use Rattle.fdb_client.specs.declared.program.Transcript.{Transcript}
use Rattle.fdb_machine.specs.headline.Traces.{IsTraceOf}
use Rattle.fdb_machine.specs.machine.Failures.{State}
use Rattle.fdb_machine.specs.machine.Roles.{CommitProxy}
use Rattle.fdb_machine.specs.machine.Sessions.{SessionState, Asking, Waiting, session_of}
use Rattle.fdb_machine.specs.machine.Steps.{next}
use Rattle.fdb_machine.specs.declared.step.Answered.{Answered}
use Rattle.fdb_machine.specs.machine.AnyStep.{Step}
use Rattle.fdb_machine.specs.declared.step.AnyStep.TheVariants as step

module _ (session : ℕ) where
  -- the transcript is of the session
  abbrev pub is_of : Transcript → Bool
  is_of transcript = transcript.id.session == session

  -- the session is among those who ask at a read-version proxy
  abbrev pub asks_at : List ℕ → Bool
  asks_at there = list_any (λ (asker : ℕ). asker == session) there

  -- one of its transactions waits at the commit proxy, or is in the batch that this has in flight
  abbrev pub waits_at : CommitProxy → Bool
  waits_at commit_proxy = list_any is_of commit_proxy.waiting || list_any is_of commit_proxy.in_flight

  -- the session asks, or waits for an answer, at one of the proxies
  abbrev pub is_somewhere : List (List ℕ) → List CommitProxy → Bool
  is_somewhere grv_proxies commit_proxies = list_any asks_at grv_proxies || list_any waits_at commit_proxies

  -- how often it asks, and how many of its transactions wait or are in flight
  abbrev pub times_asking_at : List ℕ → ℕ
  times_asking_at there = count_by (λ (asker : ℕ). asker == session) there

  abbrev pub times_waiting_at : CommitProxy → ℕ
  times_waiting_at commit_proxy = count_by is_of commit_proxy.waiting + count_by is_of commit_proxy.in_flight

  abbrev pub times_asking : List (List ℕ) → ℕ
  times_asking grv_proxies = sum_by times_asking_at grv_proxies

  abbrev pub times_waiting : List CommitProxy → ℕ
  times_waiting commit_proxies = sum_by times_waiting_at commit_proxies

-- The session is where its state says, and is there once.
pub record IsWhereItsStateSays (session : ℕ) (state : SessionState) (grv_proxies : List (List ℕ))
    (commit_proxies : List CommitProxy) : Type 0 where
  pub asks : (state ≡ Asking) ↔ (list_any (asks_at session) grv_proxies ≡ true)
  pub waits : (state ≡ Waiting) ↔ (list_any (waits_at session) commit_proxies ≡ true)
  pub once : times_asking session grv_proxies + times_waiting session commit_proxies ≤ 1

-- over every trace each session is where its state says
abbrev pub SessionsAreWhereTheirStatesSay : Type 0
SessionsAreWhereTheirStatesSay =
    (config : Config) (steps : List Step) (answers : List (Result Answered Refusal)) (world : State)
    → IsTraceOf config steps answers world
    → (session : ℕ) → let m = world.machine in
    IsWhereItsStateSays session (session_of m.sessions session).state m.grv_proxies m.commit_proxies

-- so over every trace a session that asks at a read-version proxy is refused as in the wrong state exactly where it
-- asks, or waits for an answer, at one of the proxies
abbrev pub AsksAreRefused : Type 0
AsksAreRefused =
    (config : Config) (steps : List Step) (answers : List (Result Answered Refusal)) (world : State)
    → IsTraceOf config steps answers world
    → (session proxy : ℕ) (there : List ℕ) → let m = world.machine in slice_get m.grv_proxies proxy ≡ Some there
    → (next m (step.Ask session proxy) ≡ Err WrongState) ↔ (is_somewhere session m.grv_proxies m.commit_proxies ≡ true)
