-- Real time: who begins after another transaction was acknowledged reads at that one's version or a greater one.
use Rattle.std.proofs.Common.{◌≡◌, ◌∙◌, ◌≤◌, le_refl, le_trans, sym, subst, arith, ⊎_elim, inl, inr, ◌⊎◌, ℕ, ◌+◌, min}
use Rattle.std.proofs.Common.{List, [], ◌∷◌, take, drop, fold, Some, Result}
use Rattle.std.specs.Prelude.{IfSome}
use Rattle.std.specs.FinMap.{empty}
use Rattle.std.specs.List.{AllByRecursion, slice_get, slice_set}
use Rattle.fdb_keys.specs.declared.refusal.Refusal.{Refusal}
use Rattle.fdb_keys.proofs.Exports.{all-append, all-weaken}
use Rattle.fdb_txn.specs.Limits.{place_limit}
use Rattle.fdb_txn.specs.declared.spot.Spot.{Spot}
use Rattle.fdb_txn.specs.declared.spot.Spot.TheVariants as spot
use Rattle.fdb_txn.specs.declared.txn_id.TxnId.{TxnId}
use Rattle.fdb_proxy.specs.declared.config.Config.{Config}
use Rattle.fdb_proxy.specs.declared.outcome.Outcome.{Outcome}
use Rattle.fdb_proxy.specs.declared.outcome.Outcome.TheVariants as outcome
use Rattle.fdb_client.specs.declared.program.Transcript.{Transcript}
use Rattle.fdb_client.specs.TxnState.{with_op}
use Rattle.fdb_roles.specs.declared.placed.Placed.{Placed}
use Rattle.fdb_roles.specs.Spots.{IsAfterVersion, spot_version}
use Rattle.fdb_roles.proofs.Exports.{all-push, all-set, all-at, all-drop, all-take, all-replicate}
use Rattle.fdb_machine.specs.machine.Roles.{CommitProxy}
use Rattle.fdb_machine.specs.headline.Traces.{after_steps, machine_of_trace}
use Rattle.fdb_machine.specs.machine.Sessions.{Session, SessionState, Sessions, EachOpen, Idle, Asking, Open, Waiting}
use Rattle.fdb_machine.specs.machine.Sessions.{session_of, with_state, open_of, open_at, begins_next, next_number}
use Rattle.fdb_machine.specs.machine.Sessions.{greatest_number, serve, tell_all}
use Rattle.fdb_machine.specs.machine.CommitProxySteps.{placed_from}
use Rattle.fdb_machine.specs.machine.Machine.{Machine}
use Rattle.fdb_machine.specs.machine.Worlds.{start, idle_proxy}
use Rattle.fdb_machine.specs.invariant.Invariant.{Invariant, IsReported}
use Rattle.fdb_machine.proofs.headline.TraceLaws.{after_steps-parts}
use Rattle.fdb_machine.proofs.machine.SessionLemmas.{put-cases, each-put, last-put, last-told, open-has, open-put}
use Rattle.fdb_machine.proofs.machine.SessionLemmas.{open-told, open-new, open-weaken, next-within}
use Rattle.fdb_machine.proofs.machine.SessionMaps.{session-there}
use Rattle.fdb_machine.proofs.invariant.SoundLaws.{sound_steps, sound-trace}
use Rattle.fdb_machine.proofs.machine.Steps.{KeptBySteps, kept-by_trace}
use Rattle.fdb_machine.specs.declared.step.Answered.{Answered}
use Rattle.fdb_machine.specs.machine.AnyStep.{Step}

-- the transaction of this id has begun in the machine: the session's last one has its number or a greater one
abbrev pub MachineHasBegun : Machine → TxnId → Type 0
MachineHasBegun m id = (last : ℕ) × ((session_of m.sessions id.session).last_number ≡ Some last) × (id.number ≤ last)

-- what is acknowledged in a later machine, and hadn't begun in this one, is after what is acknowledged in this one
abbrev pub MachineAfterEarlier : Machine → Machine → Type 0
MachineAfterEarlier m later =
    (i j : ℕ) (placed other : Placed) → slice_get m.acknowledged i ≡ Some placed
    → slice_get later.acknowledged j ≡ Some other
    → (MachineHasBegun m other.transcript.id → ⊥)
    → (spot_version placed.spot ≤ other.transcript.read_version) × IsAfterVersion (spot_version placed.spot) other.spot

-- the id's number is one that there is, and its session has begun it
abbrev HasBegunBy : TxnId → Session → Type 0
HasBegunBy id session =
    (id.number ≤ greatest_number) × ((last : ℕ) × (session.last_number ≡ Some last) × (id.number ≤ last))

abbrev Begins : Sessions → TxnId → Type 0
Begins sessions id = HasBegunBy id (session_of sessions id.session)

-- what has begun stays so
begins-more : (version : ℕ) (sessions : Sessions) (session : ℕ) (id : TxnId) → Begins sessions id
    → Begins (serve version sessions session) id
begins-more version sessions session id begins =
    put-cases (HasBegunBy id) sessions session (begins_next version session (session_of sessions session)) id.session
    (λ same.
    let was = subst (λ (n : ℕ). HasBegunBy id (session_of sessions n)) (sym same) begins in
    let last = (session_of sessions session).last_number in
    let below : id.number ≤ next_number last =
    rw was.1.1 (next-above id.number was.1.0 greatest_number was.0 was.1.2) in
    (was.0, (next_number last, λ i. Some (next_number last), below)))
    (λ differs. begins)
  where
    next-above : (number last greatest : ℕ) → number ≤ greatest → number ≤ last → number ≤ min (last + 1) greatest
    next-above number last greatest within below = omega arith

-- a transaction that a session begins has begun
begins-new : (version : ℕ) (sessions : Sessions) (session : ℕ)
    → Begins (serve version sessions session)
    (record { session = session; number = next_number (session_of sessions session).last_number })
begins-new version sessions session =
    let last = (session_of sessions session).last_number in
    subst (HasBegunBy (record { session = session; number = next_number last }))
    (sym (session-there sessions session (begins_next version session (session_of sessions session))))
    (next-within last, (next_number last, λ i. Some (next_number last), omega arith))

-- and so it is where the last numbers stay
begins-still : (old new : Sessions)
    → ((session : ℕ) → (session_of new session).last_number ≡ (session_of old session).last_number) → (id : TxnId)
    → Begins old id → Begins new id
begins-still old new same id begins = (begins.0, (begins.1.0, same id.session ∙ begins.1.1, begins.1.2))

-- what holds of each transaction that a commit proxy has
abbrev AllAtProxy : (Transcript → Type 0) → CommitProxy → Type 0
AllAtProxy Q commit_proxy = AllByRecursion Q commit_proxy.waiting × AllByRecursion Q commit_proxy.in_flight

-- what holds of each transaction that is open, at a commit proxy or acknowledged
abbrev All : (Transcript → Type 0) → Sessions → List CommitProxy → List Placed → Type 0
All Q sessions commit_proxies acknowledged =
    EachOpen Q sessions × AllByRecursion (AllAtProxy Q) commit_proxies
    × AllByRecursion (λ (placed : Placed). Q placed.transcript) acknowledged

-- the same of what is weaker
all-more : (Q R : Transcript → Type 0) (sessions : Sessions) (commit_proxies : List CommitProxy)
    (acknowledged : List Placed)
    → ((t : Transcript) → Q t → R t) → All Q sessions commit_proxies acknowledged
    → All R sessions commit_proxies acknowledged
all-more Q R sessions commit_proxies acknowledged more all = (
  open-weaken Q R more sessions all.0,
  all-weaken (AllAtProxy Q) (AllAtProxy R) (λ (proxy : CommitProxy) has. (
    all-weaken Q R more proxy.waiting has.0,
    all-weaken Q R more proxy.in_flight has.1,
  )) commit_proxies all.1,
  all-weaken _ _ (λ (placed : Placed). more placed.transcript) acknowledged all.2,
)

-- those of a batch that are committed
all-placed : (Q : Transcript → Type 0) (index : ℕ) (ts : List Transcript) (outcomes : List Outcome)
    → AllByRecursion Q ts
    → AllByRecursion (λ (placed : Placed). Q placed.transcript) (placed_from index ts outcomes)
all-placed Q index [] outcomes all = tt
all-placed Q index (t ∷ ts) [] all = tt
all-placed Q index (t ∷ ts) (outcome.Commit version place ∷ outcomes) all =
    (all.0, all-placed Q index ts outcomes all.1)
all-placed Q index (t ∷ ts) (outcome.Conflict ∷ outcomes) all = all-placed Q index ts outcomes all.1
all-placed Q index (t ∷ ts) (outcome.Old ∷ outcomes) all = all-placed Q index ts outcomes all.1

-- A property of the transactions' ids and read versions, where at least so much is committed.
module _ (P : Sessions → TxnId → ℕ → Type 0) (low : ℕ) where
  abbrev Has : Sessions → Transcript → Type 0
  Has sessions transcript = P sessions transcript.id transcript.read_version

  abbrev Kept : Machine → Type 0
  Kept m = (low ≤ m.committed) × All (Has m.sessions) m.sessions m.commit_proxies m.acknowledged

  module _ (m : Machine) (kept : Kept m) where
    -- an open transaction has the property
    opened-has : (session : ℕ) (transcript : Transcript) → open_at m.sessions session ≡ Some transcript
        → Has m.sessions transcript
    opened-has session transcript = open-has (Has m.sessions) m.sessions session transcript kept.1.0

    -- and so have those at a commit proxy
    proxy-has : (proxy : ℕ) (commit_proxy : CommitProxy) → slice_get m.commit_proxies proxy ≡ Some commit_proxy
        → AllAtProxy (Has m.sessions) commit_proxy
    proxy-has proxy commit_proxy = all-at (AllAtProxy (Has m.sessions)) m.commit_proxies proxy commit_proxy kept.1.1

    -- where a commit proxy of transactions that have it stands in the place of another, all have it
    set-proxy : (proxy : ℕ) (new : CommitProxy) → AllAtProxy (Has m.sessions) new
        → AllByRecursion (AllAtProxy (Has m.sessions)) (slice_set m.commit_proxies proxy new)
    set-proxy proxy new = all-set (AllAtProxy (Has m.sessions)) m.commit_proxies proxy new kept.1.1

  -- Where it rests on the last numbers alone, more that begins takes nothing from it, and what begins at a version from
  -- the bound on has it, every step keeps it.
  module _ (still : (old new : Sessions)
      → ((session : ℕ) → (session_of new session).last_number ≡ (session_of old session).last_number)
      → (t : Transcript) → Has old t → Has new t)
      (more : (version : ℕ) (sessions : Sessions) (session : ℕ) (t : Transcript) → Has sessions t
      → Has (serve version sessions session) t)
      (new : (version : ℕ) (sessions : Sessions) (session : ℕ) → low ≤ version
      → P (serve version sessions session)
      (record { session = session; number = next_number (session_of sessions session).last_number }) version) where
    -- a session has another state, under which an open transaction has it
    put-kept : (sessions : Sessions) (session : ℕ) (state : SessionState) (commit_proxies : List CommitProxy)
        (acknowledged : List Placed) → All (Has sessions) sessions commit_proxies acknowledged
        → IfSome (open_of state) (Has sessions)
        → let after = with_state sessions session state in All (Has after) after commit_proxies acknowledged
    put-kept sessions session state commit_proxies acknowledged all first =
        let after = with_state sessions session state in
        all-more (Has sessions) (Has after) after commit_proxies acknowledged
        (still sessions after (last-put sessions session state))
        (open-put (Has sessions) sessions session state all.0 first, all.1, all.2)

    -- those who ask are served
    served-kept : (version : ℕ) → low ≤ version → (askers : List ℕ) (sessions : Sessions)
        (commit_proxies : List CommitProxy) (acknowledged : List Placed)
        → All (Has sessions) sessions commit_proxies acknowledged
        → let after = fold (serve version) sessions askers in All (Has after) after commit_proxies acknowledged
    served-kept version above [] sessions commit_proxies acknowledged all = all
    served-kept version above (asker ∷ askers) sessions commit_proxies acknowledged all =
        let after = serve version sessions asker in
        let others = all-more (Has sessions) (Has after) sessions commit_proxies acknowledged
        (more version sessions asker) all in
        served-kept version above askers after commit_proxies acknowledged (
          each-put (λ (_ : ℕ) (session : Session). IfSome (open_of session.state) (Has after)) sessions asker
              (begins_next version asker (session_of sessions asker)) others.0 (new version sessions asker above),
          others.1,
          others.2,
        )

    -- those of a batch are told
    told-kept : (transcripts : List Transcript) (sessions : Sessions) (commit_proxies : List CommitProxy)
        (acknowledged : List Placed) → All (Has sessions) sessions commit_proxies acknowledged
        → let after = tell_all transcripts sessions in All (Has after) after commit_proxies acknowledged
    told-kept transcripts sessions commit_proxies acknowledged all =
        let after = tell_all transcripts sessions in
        all-more (Has sessions) (Has after) after commit_proxies acknowledged
        (still sessions after (last-told transcripts sessions))
        (open-told (Has sessions) transcripts sessions all.0, all.1, all.2)

    kept_steps : KeptBySteps Kept
    kept_steps = record {
      roles = λ m one_step answer resolvers logs shards quiet grew went kept. kept;
      asked = λ m session proxy there at free kept.
          (kept.0, put-kept m.sessions session Asking m.commit_proxies m.acknowledged kept.1 tt);
      granted = λ m proxy there at left kept.
          (kept.0, served-kept m.committed kept.0 there m.sessions m.commit_proxies m.acknowledged kept.1);
      operated = λ m one_step session transcript operation does opened allowed kept. (
        kept.0,
        put-kept m.sessions session (Open (with_op transcript operation _)) m.commit_proxies m.acknowledged
            kept.1 (opened-has m kept session transcript opened),
      );
      read_only = λ m session proxy transcript opened empty kept.
          let placed = all-push _ m.acknowledged _ kept.1.2 (opened-has m kept session transcript opened) in
          (kept.0, put-kept m.sessions session Idle m.commit_proxies _ (kept.1.0, kept.1.1, placed) tt);
      submitted = λ m session proxy commit_proxy transcript at opened writes kept.
          let was = proxy-has m kept proxy commit_proxy at in
          let proxies = set-proxy m kept proxy _
          (all-push _ commit_proxy.waiting _ was.0 (opened-has m kept session transcript opened), was.1) in
          (kept.0, put-kept m.sessions session Waiting _ m.acknowledged (kept.1.0, proxies, kept.1.2) tt);
      sealed = λ m proxy advance commit_proxy at idle few room kept.
          let waiting = (proxy-has m kept proxy commit_proxy at).0 in
          let proxies = set-proxy m kept proxy _ (
            all-drop _ place_limit commit_proxy.waiting waiting,
            all-take _ place_limit commit_proxy.waiting waiting,
          ) in
          (kept.0, (kept.1.0, proxies, kept.1.2));
      went_on = λ m one_step answer proxy commit_proxy stage decided verdicts acknowledgements quiet came at busy
          goes_on
          unreported went kept.
          (kept.0, (kept.1.0, set-proxy m kept proxy _ (proxy-has m kept proxy commit_proxy at), kept.1.2));
      reported_version = λ m proxy commit_proxy entry at logging there whole kept. (
        omega (arith, kept.0),
        (kept.1.0, set-proxy m kept proxy _ (proxy-has m kept proxy commit_proxy at), kept.1.2),
      );
      moved = λ m range to exists kept. kept;
      windowed = λ m width within kept. kept;
      told = λ m proxy commit_proxy entry at reported there kept.
          let was = proxy-has m kept proxy commit_proxy at in
          let placed = all-placed (Has m.sessions) commit_proxy.entry commit_proxy.in_flight _ was.1 in (
            kept.0,
            told-kept commit_proxy.in_flight m.sessions _ _ (
              kept.1.0,
              set-proxy m kept proxy _ (was.0, tt),
              all-append _ m.acknowledged _ kept.1.2 placed,
            ),
          );
    }

-- whatever there is has begun
abbrev HasBegunThere : Sessions → TxnId → ℕ → Type 0
HasBegunThere sessions id read = Begins sessions id

begun-start : (config : Config) → Kept HasBegunThere 0 (start config)
begun-start config = (
  omega arith,
  (open-new (Has HasBegunThere 0 empty), all-replicate _ idle_proxy config.proxies (tt, tt), tt),
)

-- from the machine on: it had begun there, or reads at that committed version or a greater one
abbrev HadBegun : Machine → Sessions → TxnId → ℕ → Type 0
HadBegun m sessions id read = MachineHasBegun m id ⊎ (m.committed ≤ read)

-- who reads at a version stands after what is of it
stands-after : (v read : ℕ) (at : Spot) → v ≤ read → IsAfterVersion read at → IsAfterVersion v at
stands-after v read (spot.Entry entry place version) below is = omega (arith, is, below)
stands-after v read (spot.ReadOnly version) below is = omega (arith, is, below)

-- after a machine and those after it
after-earlier : (m : Machine) (steps : List Step) (given : List (Result Answered Refusal)) → Invariant m
    → Kept HasBegunThere 0 m
    → MachineAfterEarlier m (after_steps m steps given)
after-earlier m steps given sound begun i j one other at_one at_other fresh =
    let later = after_steps m steps given in
    let now : Kept (HadBegun m) m.committed m = (
      le_refl m.committed,
      all-more (Has HasBegunThere 0 m.sessions) (Has (HadBegun m) m.committed m.sessions) m.sessions
          m.commit_proxies m.acknowledged
          (λ t begins. inl begins.1) begun.1,
    ) in
    let had = kept-by_trace (Kept (HadBegun m) m.committed)
    (kept_steps (HadBegun m) m.committed (λ old new same t had. had) (λ version sessions session t had. had)
    (λ version sessions session above. inr above)) m steps given now in
    let reads : m.committed ≤ other.transcript.read_version
    = ⊎_elim (λ has. absurd (fresh has)) (λ above. above) (all-at _ later.acknowledged j other had.1.2 at_other) in
    let after : spot_version one.spot ≤ other.transcript.read_version
    = le_trans (all-at (IsReported m) m.acknowledged i one sound.reported at_one).0 reads in
    let later_sound : Invariant later = kept-by_trace Invariant sound_steps m steps given sound in
    let stands = (all-at (IsReported later) later.acknowledged j other later_sound.reported at_other).1 in
    (after, stands-after (spot_version one.spot) other.transcript.read_version other.spot after stands)

-- and over the first steps of a trace and the whole
pub after-first : (config : Config) (steps : List Step) (given : List (Result Answered Refusal)) (n : ℕ)
    → MachineAfterEarlier (machine_of_trace config (take n steps) (take n given)) (machine_of_trace config steps given)
after-first config steps given n =
    let m = machine_of_trace config (take n steps) (take n given) in
    let begun : Kept HasBegunThere 0 m = kept-by_trace (Kept HasBegunThere 0)
    (kept_steps HasBegunThere 0 (λ old new same t. begins-still old new same t.id)
    (λ version sessions session t. begins-more version sessions session t.id)
    (λ version sessions session above. begins-new version sessions session))
    (start config) (take n steps) (take n given) (begun-start config) in
    subst (MachineAfterEarlier m) (after_steps-parts n (start config) steps given)
    (after-earlier m (drop n steps) (drop n given) (sound-trace config (take n steps) (take n given)) begun)
