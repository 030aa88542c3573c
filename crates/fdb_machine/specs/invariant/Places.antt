-- Where sessions are: each asks and waits as often as its state says, and an open transaction is its own.
use Rattle.std.specs.Prelude.{◌≡◌, ℕ, cond, true, List, [], IfSome}
use Rattle.std.specs.List.{AllByRecursion}
use Rattle.fdb_client.specs.declared.program.Transcript.{Transcript}
use Rattle.fdb_machine.specs.headline.Sessions.{times_asking, times_waiting}
use Rattle.fdb_machine.specs.machine.CommitProxySteps.{is_idle}
use Rattle.fdb_machine.specs.machine.Machine.{Machine}
use Rattle.fdb_machine.specs.machine.Roles.{CommitProxy}
use Rattle.fdb_machine.specs.machine.Sessions.{SessionState, session_of, is_asking, is_waiting, open_of}

-- how often a session at the state asks, and how many of its transactions wait
abbrev pub asks_as : SessionState → ℕ
asks_as state = cond (is_asking state) 1 0

abbrev pub waits_as : SessionState → ℕ
waits_as state = cond (is_waiting state) 1 0

-- The session, with its state, asks and waits as often as the state says, and an open transaction is its own.
pub record StandsAs (session : ℕ) (state : SessionState) (grv_proxies : List (List ℕ))
    (commit_proxies : List CommitProxy) : Type 0 where
  pub named : IfSome (open_of state) (λ (transcript : Transcript). transcript.id.session ≡ session)
  pub asks : times_asking session grv_proxies ≡ asks_as state
  pub waits : times_waiting session commit_proxies ≡ waits_as state

abbrev pub Stands : ℕ → Machine → Type 0
Stands session m = StandsAs session (session_of m.sessions session).state m.grv_proxies m.commit_proxies

-- a commit proxy without a batch has none in flight
abbrev pub HasNoneIdle : CommitProxy → Type 0
HasNoneIdle commit_proxy = is_idle commit_proxy.stage ≡ true → commit_proxy.in_flight ≡ []

-- so stand all sessions
abbrev pub AllStand : Machine → Type 0
AllStand m = ((session : ℕ) → Stands session m) × AllByRecursion HasNoneIdle m.commit_proxies
