-- Each session stands as its state says, through every step.
use Rattle.std.proofs.Common.{◌≡◌, ◌≢◌, ◌∙◌, ◌<◌, ◌≤◌, refl, sym, ap, subst, arith, ⊎_elim, ℕ, ◌+◌, false, cond, List}
use Rattle.std.proofs.Common.{[], ◌∷◌, ◌++◌, fold, Option, Some, None, Result}
use Rattle.std.specs.Prelude.{◌==◌, IfSome}
use Rattle.std.specs.List.{AllByRecursion, slice_get, slice_set, count_by}
use Rattle.std.proofs.lemmas.List.Sums.{sum_by_push, sum_by-take-drop}
use Rattle.std.proofs.lemmas.List.Folds.{sum_by-replicate}
use Rattle.std.proofs.lemmas.Bool.{eq-eqb, ne_eqb}
use Rattle.fdb_keys.specs.declared.refusal.Refusal.{Refusal}
use Rattle.fdb_txn.specs.Limits.{place_limit}
use Rattle.fdb_proxy.specs.declared.config.Config.{Config}
use Rattle.fdb_client.specs.declared.program.Transcript.{Transcript}
use Rattle.fdb_client.specs.TxnState.{with_op}
use Rattle.fdb_roles.proofs.Exports.{all-at, all-set, all-replicate}
use Rattle.fdb_machine.specs.headline.Sessions.{is_of, times_asking_at, times_waiting_at}
use Rattle.fdb_machine.specs.headline.Traces.{machine_of_trace}
use Rattle.fdb_machine.specs.invariant.Places.{asks_as, waits_as, StandsAs, Stands, HasNoneIdle, AllStand}
use Rattle.fdb_machine.specs.machine.CommitProxySteps.{is_idle}
use Rattle.fdb_machine.specs.machine.Machine.{Machine}
use Rattle.fdb_machine.specs.machine.Roles.{CommitProxy}
use Rattle.fdb_machine.specs.machine.Sessions.{Session, SessionState, Idle, Asking, Open, Waiting, session_of}
use Rattle.fdb_machine.specs.machine.Sessions.{with_state, is_busy, open_of, open_at, serve, tell_all}
use Rattle.fdb_machine.specs.machine.Worlds.{start, idle_proxy}
use Rattle.fdb_machine.proofs.common.SumLemmas.{sum-set, sum-at, none_or_some}
use Rattle.fdb_machine.proofs.machine.SessionLemmas.{state-put, served-none, served-once, told-none, told-some}
use Rattle.fdb_machine.proofs.machine.SessionMaps.{session-new}
use Rattle.fdb_machine.proofs.machine.Steps.{KeptBySteps, kept-by_trace}
use Rattle.fdb_machine.proofs.machine.Sealing.{sealed_proxy, sealed_machine}
use Rattle.fdb_machine.specs.declared.step.Answered.{Answered}
use Rattle.fdb_machine.specs.machine.AnyStep.{Step}

-- it is in one place at most
pub one-place : (state : SessionState) → asks_as state + waits_as state ≤ 1
one-place Idle = omega arith
one-place Asking = omega arith
one-place (Open transcript) = omega arith
one-place Waiting = omega arith

-- and in none where it isn't busy
free-nowhere : (state : SessionState) → is_busy state ≡ false → asks_as state + waits_as state ≡ 0
free-nowhere Idle free = refl
free-nowhere Asking free = cc
free-nowhere (Open transcript) free = refl
free-nowhere Waiting free = cc

-- as where its transaction is open
open-nowhere : (state : SessionState) (transcript : Transcript) → open_of state ≡ Some transcript
    → asks_as state + waits_as state ≡ 0
open-nowhere Idle transcript opened = cc
open-nowhere Asking transcript opened = cc
open-nowhere (Open other) transcript opened = refl
open-nowhere Waiting transcript opened = cc

-- an open transaction is its session's
pub open-own : (m : Machine) (session : ℕ) (transcript : Transcript) → Stands session m
    → open_at m.sessions session ≡ Some transcript → transcript.id.session ≡ session
open-own m session transcript stands opened = subst
    (λ (there : Option Transcript). IfSome there (λ (t : Transcript). t.id.session ≡ session)) opened stands.named

-- one more that is the session's, or not
asks-more : (session asker : ℕ) (there : List ℕ)
    → (asker ≡ session → times_asking_at session (there ++ asker ∷ []) ≡ times_asking_at session there + 1)
    × (asker ≢ session → times_asking_at session (there ++ asker ∷ []) ≡ times_asking_at session there)
asks-more session asker there =
    let more = sum_by_push (λ (other : ℕ). cond {A = ℕ} (other == session) 1 0) there asker in (
      λ same. let one : cond {A = ℕ} (asker == session) 1 0 ≡ 1 = rw (eq-eqb asker session same) refl in
          omega (arith, more, one),
      λ differs. let none : cond {A = ℕ} (asker == session) 1 0 ≡ 0 = rw (ne_eqb asker session differs) refl in
          omega (arith, more, none),
    )

waits-more : (session : ℕ) (commit_proxy : CommitProxy) (transcript : Transcript) →
    let new = record commit_proxy { waiting = commit_proxy.waiting ++ transcript ∷ [] } in
    (transcript.id.session ≡ session → times_waiting_at session new ≡ times_waiting_at session commit_proxy + 1)
    × (transcript.id.session ≢ session → times_waiting_at session new ≡ times_waiting_at session commit_proxy)
waits-more session commit_proxy transcript =
    let own = transcript.id.session in
    let more = sum_by_push (λ (t : Transcript). cond {A = ℕ} (is_of session t) 1 0) commit_proxy.waiting transcript
    in (
      λ same. let one : cond {A = ℕ} (own == session) 1 0 ≡ 1 = rw (eq-eqb own session same) refl in
          omega (arith, more, one),
      λ differs. let none : cond {A = ℕ} (own == session) 1 0 ≡ 0 = rw (ne_eqb own session differs) refl in
          omega (arith, more, none),
    )

module _ (session : ℕ) where
  -- one who wasn't busy asks
  asked-stands : (m : Machine) (asker proxy : ℕ) (there : List ℕ) → slice_get m.grv_proxies proxy ≡ Some there
      → is_busy (session_of m.sessions asker).state ≡ false → Stands session m
      → StandsAs session (session_of (with_state m.sessions asker Asking) session).state
      (slice_set m.grv_proxies proxy (there ++ asker ∷ [])) m.commit_proxies
  asked-stands m asker proxy there at free stands =
      let set = sum-set (times_asking_at session) m.grv_proxies proxy there (there ++ asker ∷ []) at in
      let more = asks-more session asker there in
      state-put (λ (state : SessionState). StandsAs session state
      (slice_set m.grv_proxies proxy (there ++ asker ∷ [])) m.commit_proxies) m.sessions asker Asking session
      (λ same.
      let nowhere = free-nowhere (session_of m.sessions session).state
      (subst (λ (s : ℕ). is_busy (session_of m.sessions s).state ≡ false) same free) in
      record {
        named = tt;
        asks = omega (arith, set, more.0 same, stands.asks, nowhere);
        waits = omega (arith, stands.waits, nowhere);
      })
      (λ differs. record {
        named = stands.named;
        asks = omega (arith, set, more.1 differs, stands.asks);
        waits = stands.waits;
      })

  -- those who ask are served
  granted-stands : (m : Machine) (proxy : ℕ) (there : List ℕ) → slice_get m.grv_proxies proxy ≡ Some there
      → Stands session m
      → StandsAs session (session_of (fold (serve m.committed) m.sessions there) session).state
      (slice_set m.grv_proxies proxy []) m.commit_proxies
  granted-stands m proxy there at stands =
      let set = sum-set (times_asking_at session) m.grv_proxies proxy there [] at in
      ⊎_elim
      (λ (none : times_asking_at session there ≡ 0).
      subst (λ (found : Session). StandsAs session found.state (slice_set m.grv_proxies proxy []) m.commit_proxies)
      (sym (served-none session m.committed there m.sessions none))
      (record { named = stands.named; asks = omega (arith, set, none, stands.asks); waits = stands.waits }))
      (λ (some : 0 < times_asking_at session there).
      let all = sum-at (times_asking_at session) m.grv_proxies proxy there at in
      let place = one-place (session_of m.sessions session).state in
      let once : times_asking_at session there ≡ 1 = omega (arith, some, all, place, stands.asks) in
      subst (λ (found : Session). StandsAs session found.state (slice_set m.grv_proxies proxy []) m.commit_proxies)
      (sym (served-once session m.committed there m.sessions once))
      (record {
        named = refl;
        asks = omega (arith, set, once, all, place, stands.asks);
        waits = omega (arith, some, all, place, stands.asks, stands.waits);
      }))
      (none_or_some (times_asking_at session there))

  -- one whose transaction is open goes on to another state in which it is nowhere
  opened-stands : (m : Machine) (client : ℕ) (transcript : Transcript) (state : SessionState)
      → open_at m.sessions client ≡ Some transcript → Stands session m
      → (client ≡ session → IfSome (open_of state) (λ (t : Transcript). t.id.session ≡ session))
      → asks_as state + waits_as state ≡ 0
      → StandsAs session (session_of (with_state m.sessions client state) session).state m.grv_proxies m.commit_proxies
  opened-stands m client transcript state opened stands named nowhere =
      state-put (λ (s : SessionState). StandsAs session s m.grv_proxies m.commit_proxies) m.sessions client state
      session
      (λ same.
      let before = open-nowhere (session_of m.sessions session).state transcript
      (subst (λ (s : ℕ). open_at m.sessions s ≡ Some transcript) same opened) in
      record {
        named = named same;
        asks = omega (arith, stands.asks, before, nowhere);
        waits = omega (arith, stands.waits, before, nowhere);
      })
      (λ differs. stands)

  -- or waits
  submitted-stands : (m : Machine) (client proxy : ℕ) (commit_proxy : CommitProxy) (transcript : Transcript)
      → slice_get m.commit_proxies proxy ≡ Some commit_proxy → open_at m.sessions client ≡ Some transcript
      → transcript.id.session ≡ client → Stands session m
      → StandsAs session (session_of (with_state m.sessions client Waiting) session).state m.grv_proxies
      (slice_set m.commit_proxies proxy
      (record commit_proxy { waiting = commit_proxy.waiting ++ transcript ∷ [] }))
  submitted-stands m client proxy commit_proxy transcript at opened own stands =
      let new = record commit_proxy { waiting = commit_proxy.waiting ++ transcript ∷ [] } in
      let set = sum-set (times_waiting_at session) m.commit_proxies proxy commit_proxy new at in
      let more = waits-more session commit_proxy transcript in
      state-put (λ (state : SessionState). StandsAs session state m.grv_proxies
      (slice_set m.commit_proxies proxy new)) m.sessions client Waiting session
      (λ same.
      let before = open-nowhere (session_of m.sessions session).state transcript
      (subst (λ (s : ℕ). open_at m.sessions s ≡ Some transcript) same opened) in
      record {
        named = tt;
        asks = omega (arith, stands.asks, before);
        waits = omega (arith, set, more.0 (own ∙ same), stands.waits, before);
      })
      (λ differs. record {
        named = stands.named;
        asks = stands.asks;
        waits = omega (arith, set, more.1 (λ same. differs (sym own ∙ same)), stands.waits);
      })

  -- a commit proxy goes on with as many of the session's transactions as it had
  with-commit_proxy : (m : Machine) (proxy : ℕ) (commit_proxy new : CommitProxy)
      → slice_get m.commit_proxies proxy ≡ Some commit_proxy
      → times_waiting_at session new ≡ times_waiting_at session commit_proxy → Stands session m
      → StandsAs session (session_of m.sessions session).state m.grv_proxies (slice_set m.commit_proxies proxy new)
  with-commit_proxy m proxy commit_proxy new at same stands = record {
    named = stands.named;
    asks = stands.asks;
    waits = omega
        (arith, stands.waits, same, sum-set (times_waiting_at session) m.commit_proxies proxy commit_proxy new at);
  }

  -- those of the new batch waited before
  sealed-stands : (m : Machine) (proxy advance : ℕ) (commit_proxy : CommitProxy)
      → slice_get m.commit_proxies proxy ≡ Some commit_proxy → commit_proxy.in_flight ≡ [] → Stands session m
      → Stands session (sealed_machine m proxy advance commit_proxy)
  sealed-stands m proxy advance commit_proxy at none =
      let weight : Transcript → ℕ = λ transcript. cond (is_of session transcript) 1 0 in
      let before : count_by (is_of session) commit_proxy.in_flight ≡ 0
      = ap (λ (ts : List Transcript). count_by (is_of session) ts) none in
      with-commit_proxy m proxy commit_proxy (sealed_proxy m commit_proxy) at
      (omega (arith, before, sum_by-take-drop weight commit_proxy.waiting place_limit))

  -- those of the batch are told
  told-stands : (m : Machine) (proxy : ℕ) (commit_proxy new : CommitProxy)
      → slice_get m.commit_proxies proxy ≡ Some commit_proxy
      → times_waiting_at session new + count_by (is_of session) commit_proxy.in_flight
      ≡ times_waiting_at session commit_proxy
      → Stands session m
      → StandsAs session (session_of (tell_all commit_proxy.in_flight m.sessions) session).state m.grv_proxies
      (slice_set m.commit_proxies proxy new)
  told-stands m proxy commit_proxy new at fewer stands =
      let set = sum-set (times_waiting_at session) m.commit_proxies proxy commit_proxy new at in
      ⊎_elim
      (λ (none : count_by (is_of session) commit_proxy.in_flight ≡ 0).
      subst (λ (found : Session). StandsAs session found.state m.grv_proxies (slice_set m.commit_proxies proxy new))
      (sym (told-none session commit_proxy.in_flight m.sessions none))
      (record { named = stands.named; asks = stands.asks; waits = omega (arith, set, fewer, none, stands.waits) }))
      (λ (some : 0 < count_by (is_of session) commit_proxy.in_flight).
      let all = sum-at (times_waiting_at session) m.commit_proxies proxy commit_proxy at in
      let place = one-place (session_of m.sessions session).state in
      subst (λ (found : Session). StandsAs session found.state m.grv_proxies (slice_set m.commit_proxies proxy new))
      (sym (told-some session commit_proxy.in_flight m.sessions some))
      (record {
        named = tt;
        asks = omega (arith, some, all, fewer, place, stands.asks, stands.waits);
        waits = omega (arith, set, some, all, fewer, place, stands.waits);
      }))
      (none_or_some (count_by (is_of session) commit_proxy.in_flight))

  -- before the first step it is nowhere
  stands-start : (config : Config) → Stands session (start config)
  stands-start config =
      subst (λ (found : Session). StandsAs session found.state (start config).grv_proxies
      (start config).commit_proxies) (sym (session-new session))
      (record {
        named = tt;
        asks = omega (arith, sum_by-replicate (times_asking_at session) config.proxies []);
        waits = omega (arith, sum_by-replicate (times_waiting_at session) config.proxies idle_proxy);
      })

-- a commit proxy that has a batch, or has none in flight, in the place of another
with-none_idle : (m : Machine) (proxy : ℕ) (new : CommitProxy) → HasNoneIdle new → AllStand m
    → AllByRecursion HasNoneIdle (slice_set m.commit_proxies proxy new)
with-none_idle m proxy new none all = all-set HasNoneIdle m.commit_proxies proxy new all.1 none

-- every step keeps it
pub session_steps : KeptBySteps AllStand
session_steps = record {
  roles = λ m one_step answer resolvers logs shards quiet grew went all. all;
  asked = λ m asker proxy there at free all.
      (λ session. asked-stands session m asker proxy there at free (all.0 session), all.1);
  granted = λ m proxy there at left all. (λ session. granted-stands session m proxy there at (all.0 session), all.1);
  operated = λ m one_step client transcript operation does opened allowed all. (
    λ session. opened-stands session m client transcript (Open (with_op transcript operation _)) opened
        (all.0 session)
        (λ same. open-own m client transcript (all.0 client) opened ∙ same) refl,
    all.1,
  );
  read_only = λ m client proxy transcript opened empty all.
      (λ session. opened-stands session m client transcript Idle opened (all.0 session) (λ same. tt) refl, all.1);
  submitted = λ m client proxy commit_proxy transcript at opened writes all. (
    λ session. submitted-stands session m client proxy commit_proxy transcript at opened
        (open-own m client transcript (all.0 client) opened) (all.0 session),
    with-none_idle m proxy _ (all-at HasNoneIdle m.commit_proxies proxy commit_proxy all.1 at) all,
  );
  sealed = λ m proxy advance commit_proxy at idle few room all. (
    λ session. sealed-stands session m proxy advance commit_proxy at
        (all-at HasNoneIdle m.commit_proxies proxy commit_proxy all.1 at (ap is_idle idle)) (all.0 session),
    with-none_idle m proxy (sealed_proxy m commit_proxy) (λ idle. cc) all,
  );
  went_on = λ m one_step answer proxy commit_proxy stage decided verdicts acknowledgements quiet came at busy goes_on
      unreported went all. (
        λ session. with-commit_proxy session m proxy commit_proxy _ at refl (all.0 session),
        with-none_idle m proxy _ (λ idle. cc) all,
      );
  reported_version = λ m proxy commit_proxy entry at logging there whole all. (
    λ session. with-commit_proxy session m proxy commit_proxy _ at refl (all.0 session),
    with-none_idle m proxy _ (λ idle. cc) all,
  );
  moved = λ m range to exists all. all;
  windowed = λ m width within all. all;
  told = λ m proxy commit_proxy entry at reported there all. (
    λ session. told-stands session m proxy commit_proxy _ at (omega arith) (all.0 session),
    with-none_idle m proxy _ (λ idle. refl) all,
  );
}

-- before the first step, and so after every trace
pub session-start : (config : Config) → AllStand (start config)
session-start config = (
  λ session. stands-start session config,
  all-replicate HasNoneIdle idle_proxy config.proxies (λ idle. refl),
)

pub sessions_stand : (config : Config) (steps : List Step) (answers : List (Result Answered Refusal))
    → AllStand (machine_of_trace config steps answers)
sessions_stand config steps answers =
    kept-by_trace AllStand session_steps (start config) steps answers (session-start config)

module _ (m : Machine) (session : ℕ) (stands : Stands session m) where
  -- at each read-version proxy the session asks once at most
  pub asks_once : (proxy : ℕ) (there : List ℕ) → slice_get m.grv_proxies proxy ≡ Some there
      → times_asking_at session there ≤ 1
  asks_once proxy there at = omega (
    arith,
    stands.asks,
    one-place (session_of m.sessions session).state,
    sum-at (times_asking_at session) m.grv_proxies proxy there at,
  )

  -- who asks or waits has no open transaction
  not-open : 0 < asks_as (session_of m.sessions session).state + waits_as (session_of m.sessions session).state
      → open_at m.sessions session ≡ None
  not-open some = by_open (open_at m.sessions session) refl
    where
      by_open : (opened : Option Transcript) → open_at m.sessions session ≡ opened → open_at m.sessions session ≡ None
      by_open None is = is
      by_open (Some transcript) is =
          absurd (omega (arith, some, open-nowhere (session_of m.sessions session).state transcript is))

  pub asker-not-open : (proxy : ℕ) (there : List ℕ) → slice_get m.grv_proxies proxy ≡ Some there
      → 0 < times_asking_at session there → open_at m.sessions session ≡ None
  asker-not-open proxy there at some = not-open (omega (
    arith,
    some,
    stands.asks,
    sum-at (times_asking_at session) m.grv_proxies proxy there at,
  ))

  -- of each batch in flight one transaction at most is the session's
  pub in_flight_once : (proxy : ℕ) (commit_proxy : CommitProxy) → slice_get m.commit_proxies proxy ≡ Some commit_proxy
      → count_by (is_of session) commit_proxy.in_flight ≤ 1
  in_flight_once proxy commit_proxy at = omega (
    arith,
    stands.waits,
    one-place (session_of m.sessions session).state,
    sum-at (times_waiting_at session) m.commit_proxies proxy commit_proxy at,
  )

  -- and one of these has no open transaction
  pub flying-not-open : (proxy : ℕ) (commit_proxy : CommitProxy) → slice_get m.commit_proxies proxy ≡ Some commit_proxy
      → 0 < count_by (is_of session) commit_proxy.in_flight → open_at m.sessions session ≡ None
  flying-not-open proxy commit_proxy at some = not-open (omega (
    arith,
    some,
    stands.waits,
    sum-at (times_waiting_at session) m.commit_proxies proxy commit_proxy at,
  ))
