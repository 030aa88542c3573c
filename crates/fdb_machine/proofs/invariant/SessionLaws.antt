-- Each session is where its state says, and is there once.
use Rattle.std.proofs.Common.{◌≡◌, ◌<◌, refl, sym, ap, subst, arith, ⊎_elim, ℕ, Bool, true, false, cond, List, Ok, Err}
use Rattle.std.specs.Prelude.{◌↔◌, ◌==◌}
use Rattle.std.specs.List.{list_any, count_by}
use Rattle.std.proofs.lemmas.Bool.{or_left, or_right, or_cases}
use Rattle.fdb_keys.specs.declared.refusal.Refusal.TheVariants.{WrongState}
use Rattle.fdb_client.specs.declared.program.Transcript.{Transcript}
use Rattle.fdb_machine.specs.headline.Sessions.{is_of, asks_at, waits_at, is_somewhere, times_asking_at, times_asking}
use Rattle.fdb_machine.specs.headline.Sessions.{times_waiting_at, times_waiting, IsWhereItsStateSays}
use Rattle.fdb_machine.specs.headline.Sessions.{SessionsAreWhereTheirStatesSay, AsksAreRefused}
use Rattle.fdb_machine.specs.invariant.Places.{asks_as, waits_as, Stands}
use Rattle.fdb_machine.specs.machine.GrvProxySteps.{asks}
use Rattle.fdb_machine.specs.machine.Machine.{Machine, Transition, refused_where}
use Rattle.fdb_machine.specs.machine.Roles.{CommitProxy}
use Rattle.fdb_machine.specs.machine.Sessions.{SessionState, Idle, Asking, Open, Waiting, session_of, is_busy}
use Rattle.fdb_machine.proofs.common.SumLemmas.{Counts, counts-test, counts-any, counts-or, passes-counted}
use Rattle.fdb_machine.proofs.headline.TraceLaws.{traces_tell}
use Rattle.fdb_machine.proofs.invariant.SessionPlaces.{one-place, sessions_stand}

-- a state by what is counted of it
asks-is : (state : SessionState) → 0 < asks_as state → state ≡ Asking
asks-is Idle some = absurd (omega (arith, some))
asks-is Asking some = refl
asks-is (Open transcript) some = absurd (omega (arith, some))
asks-is Waiting some = absurd (omega (arith, some))

waits-is : (state : SessionState) → 0 < waits_as state → state ≡ Waiting
waits-is Idle some = absurd (omega (arith, some))
waits-is Asking some = absurd (omega (arith, some))
waits-is (Open transcript) some = absurd (omega (arith, some))
waits-is Waiting some = refl

module _ (session : ℕ) where
  asks-counted : Counts (times_asking session) (λ (grv_proxies : List (List ℕ)). list_any (asks_at session) grv_proxies)
  asks-counted = counts-any (times_asking_at session) (asks_at session)
      (counts-any (λ (asker : ℕ). cond (asker == session) 1 0) (λ (asker : ℕ). asker == session)
      (counts-test (λ (asker : ℕ). asker == session)))

  waits-counted : Counts (times_waiting session)
      (λ (commit_proxies : List CommitProxy). list_any (waits_at session) commit_proxies)
  waits-counted = counts-any (times_waiting_at session) (waits_at session) (λ commit_proxy.
      let among = counts-any (λ (t : Transcript). cond (is_of session t) 1 0) (is_of session)
      (counts-test (is_of session)) in
      counts-or {X = List Transcript × List Transcript} (λ both. count_by (is_of session) both.0)
      (λ both. count_by (is_of session) both.1) (λ both. list_any (is_of session) both.0)
      (λ both. list_any (is_of session) both.1) (λ both. among both.0) (λ both. among both.1)
      (commit_proxy.waiting, commit_proxy.in_flight))

  -- a session that stands as its state says is where its state says
  pub stands-there : (m : Machine) → Stands session m
      → IsWhereItsStateSays session (session_of m.sessions session).state m.grv_proxies m.commit_proxies
  stands-there m stands = record {
    asks = (
      λ is. passes-counted (times_asking session) (list_any (asks_at session)) asks-counted m.grv_proxies
          (omega (arith, stands.asks, ap asks_as is)),
      λ some. asks-is state (omega (arith, stands.asks, (asks-counted m.grv_proxies).0 some)),
    );
    waits = (
      λ is. passes-counted (times_waiting session) (list_any (waits_at session)) waits-counted m.commit_proxies
          (omega (arith, stands.waits, ap waits_as is)),
      λ some. waits-is state (omega (arith, stands.waits, (waits-counted m.commit_proxies).0 some)),
    );
    once = omega (arith, stands.asks, stands.waits, one-place state);
  }
    where
      state : SessionState
      state = (session_of m.sessions session).state

pub sessions_are_where_their_states_say : SessionsAreWhereTheirStatesSay
sessions_are_where_their_states_say config steps given world trace session =
    stands-there session world.machine (subst (Stands session) (sym (traces_tell config steps given world trace))
    ((sessions_stand config steps given).0 session))

-- a session is busy exactly where its state says that it is somewhere
busy-somewhere : (session : ℕ) (state : SessionState) (grv_proxies : List (List ℕ)) (commit_proxies : List CommitProxy)
    → IsWhereItsStateSays session state grv_proxies commit_proxies
    → (is_busy state ≡ true) ↔ (is_somewhere session grv_proxies commit_proxies ≡ true)
busy-somewhere session state grv_proxies commit_proxies there = (
  forth state there,
  λ some. ⊎_elim
      (λ asks. ap is_busy (there.asks.1 asks)) (λ waits. ap is_busy (there.waits.1 waits))
      (or_cases (list_any (asks_at session) grv_proxies) (list_any (waits_at session) commit_proxies) some),
)
  where
    forth : (state : SessionState) → IsWhereItsStateSays session state grv_proxies commit_proxies
        → is_busy state ≡ true → is_somewhere session grv_proxies commit_proxies ≡ true
    forth Idle there busy = cc
    forth Asking there busy = or_left (list_any (asks_at session) grv_proxies)
        (list_any (waits_at session) commit_proxies) (there.asks.0 refl)
    forth (Open transcript) there busy = cc
    forth Waiting there busy = or_right (list_any (asks_at session) grv_proxies)
        (list_any (waits_at session) commit_proxies) (there.waits.0 refl)

pub asks_are_refused : AsksAreRefused
unfolding asks
asks_are_refused config steps given world trace session proxy there at =
    let busy = busy-somewhere session (session_of m.sessions session).state m.grv_proxies m.commit_proxies
    (sessions_are_where_their_states_say config steps given world trace session) in
    rw at (by_test (is_busy (session_of m.sessions session).state) _ busy)
  where
    m : Machine
    m = world.machine

    by_test : (test : Bool) (transition : Transition)
        → (test ≡ true) ↔ (is_somewhere session m.grv_proxies m.commit_proxies ≡ true)
        → (refused_where test WrongState (Ok transition) ≡ Err WrongState) ↔
        (is_somewhere session m.grv_proxies m.commit_proxies ≡ true)
    by_test true transition busy = (λ refused. busy.0 refl, λ some. refl)
    by_test false transition busy = ((λ refused. cc), λ some. let wrong = busy.1 some in cc)
