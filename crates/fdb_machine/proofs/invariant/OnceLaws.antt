-- Each transaction is in the book at most once: how often there is one of an id, kept by every step.
use Rattle.std.proofs.Common.{◌≡◌, ◌≢◌, ◌∙◌, ◌<◌, ◌≤◌, refl, sym, ap, subst, arith, ⊎_elim, ℕ, ◌+◌, min, false, cond}
use Rattle.std.proofs.Common.{List, [], ◌∷◌, ◌++◌, take, fold, replicate, Option, Some, None, Result, sum_by}
use Rattle.std.specs.Prelude.{◌==◌, nat_le, unwrap_or}
use Rattle.std.specs.List.{slice_get, slice_set, list_any}
use Rattle.std.proofs.lemmas.List.Sums.{sum_by_push, sum_by-take-drop}
use Rattle.std.proofs.lemmas.List.Folds.{sum_by-replicate}
use Rattle.std.proofs.lemmas.Bool.{cond_both, eq-eqb, eqb-true, eqb-false, ne_eqb, leb-true, le-leb}
use Rattle.fdb_keys.specs.declared.refusal.Refusal.{Refusal}
use Rattle.fdb_txn.specs.Limits.{place_limit}
use Rattle.fdb_txn.specs.declared.entry.Entry.{Entry}
use Rattle.fdb_txn.specs.declared.txn_id.TxnId.{TxnId}
use Rattle.fdb_txn.specs.book.Transactions.{Transaction}
use Rattle.fdb_txn.specs.book.Once.{NoIdTwice, times_with_id, times_in_book}
use Rattle.fdb_proxy.specs.declared.config.Config.{Config}
use Rattle.fdb_client.specs.declared.program.Transcript.{Transcript}
use Rattle.fdb_client.specs.TxnState.{with_op}
use Rattle.fdb_client.specs.Programs.{commit_request_of}
use Rattle.fdb_machine.specs.machine.Roles.{CommitProxy}
use Rattle.fdb_machine.specs.headline.Traces.{machine_of_trace}
use Rattle.fdb_machine.specs.invariant.Once.{up_to, once_for, waiting_in, times_waiting, times_opened, Once, OnceAmong}
use Rattle.fdb_machine.specs.invariant.Once.{IsOnce}
use Rattle.fdb_machine.specs.machine.GrvProxySteps.{has_no_number}
use Rattle.fdb_machine.specs.machine.Machine.{Machine}
use Rattle.fdb_machine.specs.machine.Sessions.{SessionState, Idle, Asking, Open, Waiting, session_of, with_state}
use Rattle.fdb_machine.specs.machine.Sessions.{open_of, open_at, next_number, greatest_number, has_used_up, serve}
use Rattle.fdb_machine.specs.machine.Sessions.{tell_all}
use Rattle.fdb_machine.specs.machine.Worlds.{start, idle_proxy}
use Rattle.fdb_machine.proofs.common.SumLemmas.{sum-set, sum-made, none_or_some}
use Rattle.fdb_machine.proofs.invariant.SessionPlaces.{session_steps, session-start, open-own, asks_once}
use Rattle.fdb_machine.proofs.machine.SessionLemmas.{put-cases, served-none, served-once, told-none, told-some}
use Rattle.fdb_machine.proofs.machine.SessionLemmas.{times_among, times_of, able, next-within}
use Rattle.fdb_machine.proofs.machine.SessionMaps.{session-new}
use Rattle.fdb_machine.proofs.machine.Steps.{KeptBySteps, kept-by_trace}
use Rattle.fdb_machine.proofs.machine.Sealing.{sealed_entry, sealed_proxy, sealed_machine}
use Rattle.fdb_machine.specs.declared.step.Answered.{Answered}
use Rattle.fdb_machine.specs.machine.AnyStep.{Step}

-- a number is counted once at most among those up to the last one
pub up_to-one : (number : ℕ) (last : Option ℕ) → up_to number last ≤ 1
up_to-one number None = omega arith
up_to-one number (Some last) = cond_both (nat_le number last) 1 0 (λ n. n ≤ 1) (λ _. omega arith) (λ _. omega arith)

-- a number is one of those up to an equal one
counts-equal : (number next : ℕ) → cond (next == number) 1 0 ≤ cond (nat_le number next) 1 0
counts-equal number next =
    cond_both (next == number) 1 0 (λ n. n ≤ cond (nat_le number next) 1 0)
    (λ same. rw (le-leb number next (omega (arith, eqb-true next number same))) (omega arith)) (λ _. omega arith)

-- the next number is none of those up to the last one
counts-next : (number : ℕ) (last : Option ℕ) → unwrap_or last 0 ≤ greatest_number → has_used_up last ≡ false
    → up_to number last + cond (next_number last == number) 1 0 ≤ up_to number (Some (next_number last))
counts-next number None within left = omega (arith, counts-equal number 0)
counts-next number (Some last) within left = up number last (next_number (Some last))
    (more last greatest_number within (eqb-false last greatest_number left))
  where
    more : (last greatest : ℕ) → last ≤ greatest → (last ≡ greatest → ⊥) → last < min (last + 1) greatest
    more last greatest within left = omega (arith, within, left)

    up : (number last next : ℕ) → last < next
        → cond (nat_le number last) 1 0 + cond (next == number) 1 0 ≤ cond (nat_le number next) 1 0
    up number last next above =
        cond_both (nat_le number last) 1 0 (λ n. n + cond (next == number) 1 0 ≤ cond (nat_le number next) 1 0)
        (λ below. let at_most = leb-true number last below in
        rw (
          ne_eqb next number (λ same. omega (arith, at_most, above, same)),
          le-leb number next
              (omega (arith, at_most, above)),
        ) (omega arith))
        (λ _. omega (arith, counts-equal number next))

module _ (id : TxnId) where
  -- an open transaction counts as one
  pub opened-once : (state : SessionState) (transcript : Transcript) → open_of state ≡ Some transcript
      → times_opened id state ≡ once_for id transcript.id
  opened-once Idle transcript opened = cc
  opened-once Asking transcript opened = cc
  opened-once (Open other) transcript opened =
      let same : other ≡ transcript = cc in ap (λ (t : Transcript). once_for id t.id) same
  opened-once Waiting transcript opened = cc

  -- one of another session doesn't count
  named-elsewhere : (other : TxnId) → other.session ≢ id.session → once_for id other ≡ 0
  named-elsewhere other differs = rw (ne_eqb other.session id.session differs) refl

  -- a session has another state: it is counted where it is the id's, and else stays
  changed-once : (m : Machine) (client : ℕ) (state : SessionState) (book : List Entry)
      (commit_proxies : List CommitProxy) → OnceAmong id m.book m.commit_proxies m.sessions
      → (client ≡ id.session → times_in_book id book + times_waiting id commit_proxies + times_opened id state
      ≤ up_to id.number (session_of m.sessions id.session).last_number)
      → (client ≢ id.session → times_in_book id book + times_waiting id commit_proxies
      + times_opened id (session_of m.sessions id.session).state
      ≤ up_to id.number (session_of m.sessions id.session).last_number)
      → OnceAmong id book commit_proxies (with_state m.sessions client state)
  changed-once m client state book commit_proxies once there elsewhere =
      put-cases (Once id book commit_proxies) m.sessions client _ id.session
      (λ same. subst (λ (s : ℕ). Once id book commit_proxies
      (record { last_number = (session_of m.sessions s).last_number; state = state })) (sym same)
      (record { within = once.within; stands = there same }))
      (λ differs. record { within = once.within; stands = elsewhere differs })

  -- those who ask are served
  granted-once : (m : Machine) (proxy : ℕ) (there : List ℕ) → slice_get m.grv_proxies proxy ≡ Some there
      → list_any (has_no_number m.sessions) there ≡ false → IsOnce id m
      → OnceAmong id m.book m.commit_proxies (fold (serve m.committed) m.sessions there)
  granted-once m proxy there at left once =
      let last = (session_of m.sessions id.session).last_number in
      ⊎_elim
      (λ (none : times_among id.session there ≡ 0).
      subst (Once id m.book m.commit_proxies) (sym (served-none id.session m.committed there m.sessions none)) once.1)
      (λ (some : 0 < times_among id.session there).
      let asks = asks_once m id.session (once.0.0 id.session) proxy there at in
      let counts = counts-next id.number last once.1.within (able id.session m.sessions there left some) in
      let one : once_for id (record { session = id.session; number = next_number last })
      ≡ cond (next_number last == id.number) 1 0 = rw (eq-eqb id.session id.session refl) refl in
      subst (Once id m.book m.commit_proxies)
      (sym (served-once id.session m.committed there m.sessions (omega (arith, some, asks))))
      (record { within = next-within last; stands = omega (arith, once.1.stands, counts, one) }))
      (none_or_some (times_among id.session there))

  -- those of a batch are told
  told-once : (m : Machine) (transcripts : List Transcript) (commit_proxies : List CommitProxy)
      → Once id m.book commit_proxies (session_of m.sessions id.session)
      → OnceAmong id m.book commit_proxies (tell_all transcripts m.sessions)
  told-once m transcripts commit_proxies once = ⊎_elim
      (λ none. subst (Once id m.book commit_proxies) (sym (told-none id.session transcripts m.sessions none)) once)
      (λ some. subst (Once id m.book commit_proxies) (sym (told-some id.session transcripts m.sessions some))
      (record { within = once.within; stands = omega (arith, once.stands) }))
      (none_or_some (times_of id.session transcripts))

  -- a proxy goes on with those who wait there
  with-commit_proxy : (m : Machine) (proxy : ℕ) (commit_proxy new : CommitProxy)
      → OnceAmong id m.book m.commit_proxies m.sessions
      → slice_get m.commit_proxies proxy ≡ Some commit_proxy → waiting_in id new ≡ waiting_in id commit_proxy
      → OnceAmong id m.book (slice_set m.commit_proxies proxy new) m.sessions
  with-commit_proxy m proxy commit_proxy new once at same = record {
    within = once.within;
    stands = omega
        (arith, once.stands, sum-set (waiting_in id) m.commit_proxies proxy commit_proxy new at, same);
  }

  -- those who leave a proxy stand in the new entry
  sealed-once : (m : Machine) (proxy advance : ℕ) (commit_proxy : CommitProxy)
      → OnceAmong id m.book m.commit_proxies m.sessions → slice_get m.commit_proxies proxy ≡ Some commit_proxy →
      let after = sealed_machine m proxy advance commit_proxy in
      OnceAmong id after.book after.commit_proxies after.sessions
  sealed-once m proxy advance commit_proxy once at =
      let weight : Transcript → ℕ = λ transcript. once_for id transcript.id in
      let entry = sealed_entry m advance commit_proxy in
      let sealed : times_with_id id entry.batch ≡ sum_by weight (take place_limit commit_proxy.waiting)
      = sum-made (λ (t : Transaction). once_for id t.id) commit_request_of (take place_limit commit_proxy.waiting) in
      record {
        within = once.within;
        stands = omega (
          arith,
          once.stands,
          sealed,
          sum_by-take-drop weight commit_proxy.waiting place_limit,
          sum-set (waiting_in id) m.commit_proxies proxy commit_proxy (sealed_proxy m commit_proxy) at,
          sum_by_push (λ (e : Entry). times_with_id id e.batch) m.book entry,
        );
      }

  -- an open transaction waits at a proxy
  submitted-once : (m : Machine) (client proxy : ℕ) (commit_proxy : CommitProxy) (transcript : Transcript)
      → slice_get m.commit_proxies proxy ≡ Some commit_proxy → open_at m.sessions client ≡ Some transcript
      → IsOnce id m
      → OnceAmong id m.book (slice_set m.commit_proxies proxy
      (record commit_proxy { waiting = commit_proxy.waiting ++ transcript ∷ [] }))
      (with_state m.sessions client Waiting)
  submitted-once m client proxy commit_proxy transcript at opened once =
      let own = open-own m client transcript (once.0.0 client) opened in
      let set = sum-set (waiting_in id) m.commit_proxies proxy commit_proxy
      (record commit_proxy { waiting = commit_proxy.waiting ++ transcript ∷ [] }) at in
      let push = sum_by_push (λ (t : Transcript). once_for id t.id) commit_proxy.waiting transcript in
      changed-once m client Waiting m.book _ once.1
      (λ same. omega (
        arith,
        once.1.stands,
        set,
        push,
        opened-once (session_of m.sessions id.session).state transcript
            (subst (λ (s : ℕ). open_at m.sessions s ≡ Some transcript) same opened),
      ))
      (λ differs. omega
      (arith, once.1.stands, set, push, named-elsewhere transcript.id (λ same. differs (sym own ∙ same))))

  -- every step keeps it
  pub once_steps : KeptBySteps (IsOnce id)
  once_steps = record {
    roles = λ m one_step answer resolvers logs shards quiet grew went once. once;
    asked = λ m session proxy there at free once. (
      session_steps.asked m session proxy there at free once.0,
      changed-once m session Asking m.book m.commit_proxies once.1 (λ same. omega (arith, once.1.stands))
          (λ differs. once.1.stands),
    );
    granted = λ m proxy there at left once. (
      session_steps.granted m proxy there at left once.0,
      granted-once m proxy there at left once,
    );
    operated = λ m one_step session transcript operation does opened allowed once. (
      session_steps.operated m one_step session transcript operation does opened allowed once.0,
      changed-once m session (Open (with_op transcript operation _)) m.book m.commit_proxies once.1
          (λ same. omega (
            arith,
            once.1.stands,
            opened-once (session_of m.sessions id.session).state transcript
                (subst (λ (s : ℕ). open_at m.sessions s ≡ Some transcript) same opened),
          ))
          (λ differs. once.1.stands),
    );
    read_only = λ m session proxy transcript opened empty once. (
      session_steps.read_only m session proxy transcript opened empty once.0,
      changed-once m session Idle m.book m.commit_proxies once.1 (λ same. omega (arith, once.1.stands))
          (λ differs. once.1.stands),
    );
    submitted = λ m session proxy commit_proxy transcript at opened writes once. (
      session_steps.submitted m session proxy commit_proxy transcript at opened writes once.0,
      submitted-once m session proxy commit_proxy transcript at opened once,
    );
    sealed = λ m proxy advance commit_proxy at idle few room once. (
      session_steps.sealed m proxy advance commit_proxy at idle few room once.0,
      sealed-once m proxy advance commit_proxy once.1 at,
    );
    went_on = λ m one_step answer proxy commit_proxy stage decided verdicts acknowledgements quiet came at busy goes_on
        unreported went once. (
          session_steps.went_on m one_step answer proxy commit_proxy stage decided verdicts acknowledgements quiet came
              at busy goes_on unreported went once.0,
          with-commit_proxy m proxy commit_proxy _ once.1 at refl,
        );
    reported_version = λ m proxy commit_proxy entry at logging there whole once. (
      session_steps.reported_version m proxy commit_proxy entry at logging there whole once.0,
      with-commit_proxy m proxy commit_proxy _ once.1 at refl,
    );
    moved = λ m range to exists once. (session_steps.moved m range to exists once.0, once.1);
    windowed = λ m width within once. (session_steps.windowed m width within once.0, once.1);
    told = λ m proxy commit_proxy entry at reported there once. (
      session_steps.told m proxy commit_proxy entry at reported there once.0,
      told-once m commit_proxy.in_flight _ (with-commit_proxy m proxy commit_proxy _ once.1 at refl),
    );
  }

  -- before the first step there is none
  pub once-start : (config : Config) → IsOnce id (start config)
  once-start config =
      let no_lanes : times_waiting id (replicate config.proxies idle_proxy) ≡ 0
      = omega (arith, sum_by-replicate (waiting_in id) config.proxies idle_proxy) in (
        session-start config,
        subst (Once id [] (start config).commit_proxies) (sym (session-new id.session))
            (record { within = omega arith; stands = omega (arith, no_lanes) }),
      )

-- so no id is that of two places of the book
pub ids-once : (m : Machine) → ((id : TxnId) → IsOnce id m) → NoIdTwice m.book
ids-once m once id =
    omega (arith, (once id).1.stands, up_to-one id.number (session_of m.sessions id.session).last_number)

-- and so it is after every trace
pub machine-once : (config : Config) (steps : List Step) (given : List (Result Answered Refusal))
    → NoIdTwice (machine_of_trace config steps given).book
machine-once config steps given = ids-once (machine_of_trace config steps given)
    (λ id. kept-by_trace (IsOnce id) (once_steps id) (start config) steps given (once-start id config))
