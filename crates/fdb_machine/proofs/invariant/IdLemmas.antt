-- The id of an open transaction is none of those that a commit proxy has.
use Rattle.std.proofs.Common.{◌≡◌, ◌∙◌, sym, ap, refl, subst, arith, ⊎_elim, ℕ, ◌+◌, List, [], ◌∷◌, ◌++◌, map, Some}
use Rattle.std.proofs.Common.{None}
use Rattle.std.specs.List.{slice_get, position_from}
use Rattle.std.proofs.lemmas.Bool.{cases_Bool, cond-false, eq-eqb}
use Rattle.std.proofs.lemmas.Iterator.Adapters.{position_from-zero}
use Rattle.std.proofs.lemmas.List.Sums.{sum_by-append}
use Rattle.fdb_txn.specs.Equality.{txn_id_eq}
use Rattle.fdb_txn.specs.book.Once.{same_id, times_with_id, times_in_book}
use Rattle.fdb_txn.specs.book.Transactions.{Transaction}
use Rattle.fdb_txn.specs.declared.entry.Entry.{Entry}
use Rattle.fdb_txn.specs.declared.txn_id.TxnId.{TxnId}
use Rattle.fdb_proxy.specs.Requests.{place_of}
use Rattle.fdb_client.specs.Programs.{commit_request_of}
use Rattle.fdb_client.specs.declared.program.Transcript.{Transcript}
use Rattle.fdb_roles.proofs.Exports.{all-at}
use Rattle.fdb_machine.specs.invariant.Invariant.{CommitProxyIsSound, Invariant}
use Rattle.fdb_machine.specs.invariant.Once.{once_for, waiting_in, times_waiting, times_opened}
use Rattle.fdb_machine.specs.invariant.Places.{HasNoneIdle}
use Rattle.fdb_machine.specs.machine.CommitProxySteps.{is_idle}
use Rattle.fdb_machine.specs.machine.Machine.{Machine}
use Rattle.fdb_machine.specs.machine.Roles.{CommitProxy}
use Rattle.fdb_machine.specs.machine.Sessions.{session_of, open_at}
use Rattle.fdb_machine.proofs.common.SumLemmas.{counted, sum-at, sum-made}
use Rattle.fdb_machine.proofs.invariant.OnceLaws.{opened-once, up_to-one}
use Rattle.fdb_machine.proofs.invariant.SessionPlaces.{open-own}

-- an id that none of some transactions has is nowhere among them
absent : (id : TxnId) (transactions : List Transaction) → times_with_id id transactions ≡ 0
    → place_of id transactions ≡ None
absent id transactions none =
    position_from-zero (λ (t : Transaction). txn_id_eq t.id id) transactions ∙ from_on 0 transactions none
  where
    from_on : (i : ℕ) (ts : List Transaction) → times_with_id id ts ≡ 0
        → position_from (λ (t : Transaction). txn_id_eq t.id id) i ts ≡ None
    from_on i [] none = refl
    from_on i (t ∷ ts) none =
        let parts = counted (λ (other : Transaction). same_id id other.id) t ts in
        ⊎_elim
        (λ is. absurd (omega (arith, none, parts.0 is)))
        (λ differs. cond-false (txn_id_eq t.id id) (Some i) _ differs
        ∙ from_on (i + 1) ts (omega (arith, none, parts.1 differs)))
        (cases_Bool (same_id id t.id))

module _ (m : Machine) (sound : Invariant m) (id : TxnId) where
  -- as often as the id stands among those who wait at a proxy
  waiting-named : (proxy : ℕ) (commit_proxy : CommitProxy) → slice_get m.commit_proxies proxy ≡ Some commit_proxy
      → times_waiting id m.commit_proxies ≡ 0 → times_with_id id (map commit_request_of commit_proxy.waiting) ≡ 0
  waiting-named proxy commit_proxy at none = omega (
    arith,
    none,
    sum-at (waiting_in id) m.commit_proxies proxy commit_proxy at,
    sum-made (λ (t : Transaction). once_for id t.id) commit_request_of commit_proxy.waiting,
  )

  -- those in flight at a proxy are in the book, or there are none
  in_flight-named : (proxy : ℕ) (commit_proxy : CommitProxy) → slice_get m.commit_proxies proxy ≡ Some commit_proxy
      → times_in_book id m.book ≡ 0 → times_with_id id (map commit_request_of commit_proxy.in_flight) ≡ 0
  in_flight-named proxy commit_proxy at none = ⊎_elim
      (λ idle. ap (λ (ts : List Transcript). times_with_id id (map commit_request_of ts))
      (all-at HasNoneIdle m.commit_proxies proxy commit_proxy (sound.once id).0.1 at idle))
      (λ busy.
      let flies = (all-at (CommitProxyIsSound m) m.commit_proxies proxy commit_proxy sound.commit_proxies at).2 busy in
      omega (
        arith,
        none,
        sum-at (λ (entry : Entry). times_with_id id entry.batch) m.book commit_proxy.entry flies.0 flies.1,
        ap (times_with_id id) flies.2,
      ))
      (cases_Bool (is_idle commit_proxy.stage))

-- who is submitted has an id that no transaction has which waits or is in flight at the proxy
pub submits-unrepeated : (m : Machine) → Invariant m → (session proxy : ℕ) (transcript : Transcript)
    (commit_proxy : CommitProxy)
    → open_at m.sessions session ≡ Some transcript → slice_get m.commit_proxies proxy ≡ Some commit_proxy
    → place_of transcript.id
    (map commit_request_of commit_proxy.in_flight ++ map commit_request_of commit_proxy.waiting)
    ≡ None
submits-unrepeated m sound session proxy transcript commit_proxy opened at =
    let id = transcript.id in
    let there = session_of m.sessions id.session in
    let once = sound.once id in
    let own = open-own m session transcript (once.0.0 session) opened in
    let counts : times_opened id there.state ≡ once_for id id = opened-once id there.state transcript
    (subst (λ (s : ℕ). open_at m.sessions s ≡ Some transcript) (sym own) opened) in
    let itself : once_for id id ≡ 1 =
    rw (eq-eqb id.session id.session refl, eq-eqb id.number id.number refl) refl in
    let one = up_to-one id.number there.last_number in
    absent id _ (omega (
      arith,
      sum_by-append (λ (t : Transaction). once_for id t.id) (map commit_request_of commit_proxy.in_flight)
          (map commit_request_of commit_proxy.waiting),
      in_flight-named m sound id proxy commit_proxy at (omega (arith, once.1.stands, counts, itself, one)),
      waiting-named m sound id proxy commit_proxy at (omega (arith, once.1.stands, counts, itself, one)),
    ))
