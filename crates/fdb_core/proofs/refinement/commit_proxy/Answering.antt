-- A commit proxy answers the clients of its batch, once the batch's version is reported.
use Rattle.std.proofs.Common.{◌≡◌, ◌≢◌, ◌∙◌, refl, sym, ap, ap₂, subst, ⊎_elim, ℕ, get_or, ◌<◌, ◌≤◌, ◌==◌, true, false}
use Rattle.std.proofs.Common.{List, [], ◌∷◌, ◌++◌, length, map, Option, Some, None, unwrap_or, Result, Ok, Err}
use Rattle.std.proofs.Common.{slice_get, slice_set, arith}
use Rattle.std.specs.FinMap.{get}
use Rattle.std.specs.List.{count_by}
use Rattle.std.specs.Option.{is_some}
use Rattle.std.proofs.lemmas.Bool.{eq-eqb}
use Rattle.std.proofs.lemmas.Bool.Decides.{eqb_tells}
use Rattle.std.proofs.lemmas.List.{length-map}
use Rattle.std.proofs.lemmas.Option.{slice_get_read, slice_get_within}
use Rattle.fdb_keys.specs.Answers.{AnswersExactly}
use Rattle.fdb_keys.specs.declared.refusal.Refusal.{Refusal}
use Rattle.fdb_keys.specs.declared.refusal.Refusal.TheVariants.{NotYet, WrongState}
use Rattle.fdb_txn.specs.declared.entry.Entry.{Entry}
use Rattle.fdb_txn.specs.declared.spot.Spot.TheVariants as spot
use Rattle.fdb_txn.specs.declared.txn_id.TxnId.{TxnId}
use Rattle.fdb_txn.specs.book.Book.{seen_before}
use Rattle.fdb_client.specs.declared.program.Transcript.{Transcript}
use Rattle.fdb_client.specs.Programs.{commit_request_of}
use Rattle.fdb_proxy.specs.declared.config.Config.{Config}
use Rattle.fdb_proxy.specs.declared.outcome.Outcome.{Outcome}
use Rattle.fdb_proxy.specs.declared.outcome.Outcome.TheVariants as outcome
use Rattle.fdb_proxy.specs.Logging.{answers_by}
use Rattle.fdb_proxy.specs.Verdicts.{outcomes_on}
use Rattle.fdb_core.specs.declared.cluster.Cluster.{Cluster}
use Rattle.fdb_roles.specs.declared.placed.Placed.{Placed}
use Rattle.fdb_core.specs.declared.roles.commit_proxy.CommitProxyRole.{CommitProxyRole}
use Rattle.fdb_machine.specs.declared.step.Answered.TheVariants as answered
use Rattle.fdb_machine.specs.headline.Sessions.{is_of, times_waiting_at}
use Rattle.fdb_machine.specs.invariant.Invariant.{Invariant}
use Rattle.fdb_machine.specs.invariant.Places.{waits_as}
use Rattle.fdb_machine.specs.machine.CommitProxySteps.{answers, is_idle, is_reported, placed_from, replies_from}
use Rattle.fdb_machine.specs.machine.Machine.{Machine}
use Rattle.fdb_machine.specs.machine.Roles.{CommitProxy, Idle}
use Rattle.fdb_machine.specs.machine.Sessions.{Session, new_session, tell_all}
use Rattle.fdb_core.specs.refinement.Cluster.{machine_of, CommitProxiesRefine, Refines}
use Rattle.fdb_machine.specs.machine.Acting.{HaveActed}
use Rattle.fdb_core.specs.refinement.commit_proxy.Ties.{CommitProxyRefines, Known, known_to, IsDone, seen_as}
use Rattle.fdb_roles.proofs.Exports.{length-answers, length-outcomes_on, map-at, map-set}
use Rattle.fdb_machine.proofs.Exports.{counted, sum-at, sessions-stand}
use Rattle.fdb_core.proofs.refinement.commit_proxy.Ties.{busy-entry, commit_proxies-put, reported-is}
use Rattle.fdb_core.proofs.refinement.commit_proxy.StateStages.{exactly-map}

-- what becomes of a transaction, without its id
abbrev pub outcome_of : TxnId × Outcome → Outcome
outcome_of answer = answer.1

-- and what its session is told
abbrev pub told_of : TxnId × Outcome → ℕ × Outcome
told_of answer = (answer.0.session, answer.1)

-- sessions are told by the ids of transactions as they are by their transcripts
pub told-is : (transcripts : List Transcript) (outcomes : List Outcome)
    → map told_of (answers_by (map commit_request_of transcripts) outcomes) ≡ replies_from transcripts outcomes
told-is [] outcomes = refl
told-is (transcript ∷ transcripts) [] = refl
told-is (transcript ∷ transcripts) (outcome ∷ outcomes) =
    ap (λ (others : List (ℕ × Outcome)). (transcript.id.session, outcome) ∷ others) (told-is transcripts outcomes)

-- the same transactions are acknowledged
pub placed-is : (index : ℕ) (transcripts : List Transcript) (outcomes : List Outcome)
    → placed_from index transcripts (map outcome_of (answers_by (map commit_request_of transcripts) outcomes))
    ≡ placed_from index transcripts outcomes
placed-is index [] outcomes = refl
placed-is index (transcript ∷ transcripts) [] = refl
placed-is index (transcript ∷ transcripts) (outcome.Commit version place ∷ outcomes) =
    ap (λ (others : List Placed). record { spot = spot.Entry index place version; transcript = transcript } ∷ others)
    (placed-is index transcripts outcomes)
placed-is index (transcript ∷ transcripts) (outcome.Conflict ∷ outcomes) = placed-is index transcripts outcomes
placed-is index (transcript ∷ transcripts) (outcome.Old ∷ outcomes) = placed-is index transcripts outcomes

-- a proxy without a batch has nothing to answer
pub answers-idle : (m : Machine) (proxy : ℕ) (commit_proxy : CommitProxy)
    → slice_get m.commit_proxies proxy ≡ Some commit_proxy → is_idle commit_proxy.stage ≡ true
    → answers m proxy ≡ Err WrongState
unfolding answers
answers-idle m proxy commit_proxy there idle = rw (there, idle) refl

-- Whose transaction is in flight at a proxy of a sound machine has done something: the machine has the session.
module _ (m : Machine) (sound : Invariant m) (proxy : ℕ) (commit_proxy : CommitProxy)
    (at : slice_get m.commit_proxies proxy ≡ Some commit_proxy) where
  one-acted : (session : ℕ) → 0 < times_waiting_at session commit_proxy → is_some (get m.sessions session) ≡ true
  one-acted session waits = by (get m.sessions session) (omega (
    arith,
    waits,
    ((sessions-stand m sound).0 session).waits,
    sum-at (times_waiting_at session) m.commit_proxies proxy commit_proxy at,
  ))
    where
      by : (there : Option Session) → 0 < waits_as (unwrap_or there new_session).state → is_some there ≡ true
      by None some = absurd (omega (arith, some))
      by (Some known) some = refl

  some-acted : (transcripts : List Transcript)
      → ((session : ℕ) → count_by (is_of session) transcripts ≤ count_by (is_of session) commit_proxy.in_flight)
      → HaveActed m.sessions transcripts
  some-acted [] among = tt
  some-acted (t ∷ ts) among = (
    one-acted t.id.session (let here = among t.id.session in
        let own = (counted (is_of t.id.session) t ts).0 (eq-eqb t.id.session t.id.session refl) in
        omega (arith, here, own)),
    some-acted ts (λ session. let here = among session in let more = fewer session in omega (arith, here, more)),
  )
    where
      fewer : (session : ℕ) → count_by (is_of session) ts ≤ count_by (is_of session) (t ∷ ts)
      fewer session =
          let parts = counted (is_of session) t ts in
          ⊎_elim
          (λ (is : (t.id.session == session ≡ true) × (t.id.session ≡ session)). omega (arith, parts.0 is.0))
          (λ (is : (t.id.session == session ≡ false) × (t.id.session ≢ session)). omega (arith, parts.1 is.0))
          (eqb_tells t.id.session session)

  pub have-acted : HaveActed m.sessions commit_proxy.in_flight
  have-acted = some-acted commit_proxy.in_flight (λ session. omega arith)

-- what the machine does, once it knows the proxy and its entry
module _ (m : Machine) (proxy : ℕ) (commit_proxy : CommitProxy) (entry : Entry)
    (there : slice_get m.commit_proxies proxy ≡ Some commit_proxy)
    (busy : is_idle commit_proxy.stage ≡ false)
    (in_book : slice_get m.book commit_proxy.entry ≡ Some entry) where
  answers-early : is_reported commit_proxy.stage ≡ false → answers m proxy ≡ Err (NotYet entry.version)
  unfolding answers
  answers-early early = rw (there, busy, in_book, early) refl

  abbrev pub outcomes : List Outcome
  outcomes = outcomes_on m.config.resolver_splits (seen_before m.book commit_proxy.entry) entry

  answers-transition : is_reported commit_proxy.stage ≡ true → answers m proxy ≡ Ok (record {
    answer = answered.Answers (replies_from commit_proxy.in_flight outcomes);
    next = record m {
      acknowledged = m.acknowledged ++ placed_from commit_proxy.entry commit_proxy.in_flight outcomes;
      sessions = tell_all commit_proxy.in_flight m.sessions;
      commit_proxies = slice_set m.commit_proxies proxy
          (record commit_proxy { in_flight = []; stage = Idle; acknowledgements_received = [] });
    };
  })
  unfolding answers
  answers-transition reported = rw (there, busy, in_book, reported) refl

-- What was given of the batch of a proxy, which stands as this one now, is the machine's answer.
pub record IsAnswered (k : Cluster) (proxy : ℕ) (old : CommitProxyRole) (transcripts : List Transcript)
    (given : List (TxnId × Outcome)) (new : CommitProxyRole) : Type 0 where
  pub each : length transcripts ≡ length given
  pub own : transcripts ≡ old.in_flight
  pub goes_on : answers (machine_of k) proxy ≡ Ok (record {
    answer = answered.Answers (map told_of given);
    next = record (machine_of k) {
      acknowledged = k.acknowledged.items ++ placed_from old.entry transcripts (map outcome_of given);
      sessions = tell_all transcripts k.sessions;
      commit_proxies = map seen_as (slice_set k.commit_proxies.items proxy new);
    };
  })
  pub tied : CommitProxiesRefine k.config k.book.items (known_to k.sequencer)
      (slice_set k.commit_proxies.items proxy new)

-- a busy proxy of a world
module _ (k : Cluster) (before : Refines k) (proxy : ℕ) (role : CommitProxyRole)
    (there : slice_get k.commit_proxies.items proxy ≡ Some role) (busy : is_idle (seen_as role).stage ≡ false) where
  pub its : CommitProxyRefines k.config k.book.items (known_to k.sequencer proxy) role
  its = before.commit_proxies.each proxy role there

  pub own : (entry : Entry) × (slice_get k.book.items role.entry ≡ Some entry)
      × (entry.batch ≡ map commit_request_of role.in_flight)
  own = busy-entry k.config k.book.items (known_to k.sequencer proxy) role its busy

  pub in-book : role.entry < length k.book.items
  in-book = slice_get_within k.book.items role.entry own.0 own.1

  -- isn't reported yet
  pub early : (entry : Entry) → entry ≡ get_or k.book.items role.entry entry → role.is_reported ≡ false
      → answers (machine_of k) proxy ≡ Err (NotYet entry.version)
  early entry read unreported =
      answers-early (machine_of k) proxy (seen_as role) entry
      (map-at seen_as k.commit_proxies.items proxy role there) busy
      (slice_get_read k.book.items (length k.book.items) role.entry entry refl in-book read)
      (reported-is k.config k.book.items (known_to k.sequencer proxy) role its busy ∙ unreported)

  -- or is, and is done
  module _ (reported : role.is_reported ≡ true) where
    pub is-reported : is_reported (seen_as role).stage ≡ true
    is-reported = reported-is k.config k.book.items (known_to k.sequencer proxy) role its busy ∙ reported

    module _ (new : CommitProxyRole) where
      abbrev IsDoneOf : CommitProxyRole → List Transcript × List (TxnId × Outcome) → Type 0
      IsDoneOf read given = IsDone k.config k.book.items (known_to k.sequencer proxy) own.0 read given.0 given.1 new

      answered-as : (given : List Transcript × List (TxnId × Outcome)) → IsDoneOf role given
          → IsAnswered k proxy role given.0 given.1 new
      answered-as given done = record {
        each = ap length done.transcripts_are
            ∙ sym (ap length done.answers_are
            ∙ length-answers (map commit_request_of role.in_flight) outcomes_there
            (length-outcomes_on k.config.resolver_splits (seen_before k.book.items role.entry) own.0
            ∙ ap length own.2)
            ∙ length-map role.in_flight commit_request_of);
        own = done.transcripts_are;
        goes_on = answers-transition (machine_of k) proxy (seen_as role) own.0
            (map-at seen_as k.commit_proxies.items proxy role there) busy own.1 is-reported
            ∙ (λ i. Ok (record {
              answer = answered.Answers (told i);
              next = record (machine_of k) {
                acknowledged = k.acknowledged.items ++ placed i;
                sessions = tell_all (sym done.transcripts_are i) k.sessions;
                commit_proxies = seen i;
              };
            }));
        tied = commit_proxies-put k.config k.book.items (known_to k.sequencer) k.commit_proxies.items proxy new
            before.commit_proxies done.refines;
      }
        where
          outcomes_there : List Outcome
          outcomes_there = outcomes_on k.config.resolver_splits (seen_before k.book.items role.entry) own.0

          told : replies_from role.in_flight outcomes_there ≡ map told_of given.1
          told = sym (ap (map told_of) done.answers_are ∙ told-is role.in_flight outcomes_there)

          placed : placed_from role.entry role.in_flight outcomes_there
              ≡ placed_from role.entry given.0 (map outcome_of given.1)
          placed = sym (ap₂ (λ (transcripts : List Transcript) (all : List (TxnId × Outcome)).
              placed_from role.entry transcripts (map outcome_of all)) done.transcripts_are done.answers_are
              ∙ placed-is role.entry role.in_flight outcomes_there)

          seen : slice_set (map seen_as k.commit_proxies.items) proxy
              (record (seen_as role) { in_flight = []; stage = Idle; acknowledgements_received = [] })
              ≡ map seen_as (slice_set k.commit_proxies.items proxy new)
          seen = sym (map-set seen_as k.commit_proxies.items proxy new
              ∙ ap (slice_set (map seen_as k.commit_proxies.items) proxy) done.machine)

      -- so it is answered by what the call gave of the proxy that was read
      pub finished : (result : Result (List Transcript × List (TxnId × Outcome)) Refusal)
          (read : CommitProxyRole) → read ≡ role
          → ((config : Config) (book : List Entry) (known : Known) (entry : Entry)
          → CommitProxyRefines config book known read → is_reported (seen_as read).stage ≡ true
          → slice_get book read.entry ≡ Some entry
          → AnswersExactly result None (λ given. IsDone config book known entry read given.0 given.1 new))
          → AnswersExactly result None (λ given. IsAnswered k proxy role given.0 given.1 new)
      finished result read same says =
          exactly-map result None (IsDoneOf role) (λ given. IsAnswered k proxy role given.0 given.1 new)
          (λ none given done. answered-as given done)
          (subst (λ (it : CommitProxyRole). CommitProxyRefines k.config k.book.items (known_to k.sequencer proxy) it
          → is_reported (seen_as it).stage ≡ true → slice_get k.book.items it.entry ≡ Some own.0
          → AnswersExactly result None (IsDoneOf it))
          same (says k.config k.book.items (known_to k.sequencer proxy) own.0) its is-reported own.1)
