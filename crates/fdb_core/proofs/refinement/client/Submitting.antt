-- A session submits its open transaction: one that wrote nothing is acknowledged, any other waits at a proxy.
use Rattle.std.proofs.Common.{◌≡◌, ◌∙◌, refl, sym, ap, ap₂, subst, ℕ, ◌≤◌, true, false, List, [], ◌∷◌, ◌++◌, map}
use Rattle.std.proofs.Common.{Option, Some, None, Ok, Vec, Global, slice_get, slice_set, Bool, not, ◌&&◌}
use Rattle.std.specs.Prelude.{IfSome}
use Rattle.std.specs.List.{AllByRecursion}
use Rattle.std.specs.Vec.{with_item}
use Rattle.std.proofs.lemmas.List.{map-append}
use Rattle.fdb_txn.specs.declared.entry.Entry.{Entry}
use Rattle.fdb_proxy.specs.declared.config.Config.{Config}
use Rattle.fdb_proxy.specs.CommitProxies.{CommitProxy as Core, submitting}
use Rattle.fdb_roles.specs.declared.placed.Placed.{Placed}
use Rattle.fdb_roles.specs.ProxyStages.{IsCommitProxyAt}
use Rattle.fdb_core.specs.refinement.commit_proxy.Ties.{Known, StageRefines, stage_of, received_at, acknowledged_at}
use Rattle.fdb_roles.proofs.Exports.{all-push, stays, map-at, map-set}
use Rattle.fdb_core.proofs.refinement.log.Ties.{set-same}
use Rattle.fdb_txn.specs.book.Transactions.{Transaction}
use Rattle.fdb_txn.specs.declared.spot.Spot.TheVariants as spot
use Rattle.fdb_client.specs.declared.finished.Finished.{Finished}
use Rattle.fdb_client.specs.declared.finished.Finished.TheVariants.{ReadOnly, ToCommit}
use Rattle.fdb_client.specs.declared.program.Transcript.{Transcript}
use Rattle.fdb_client.specs.Finishing.{IsFinished}
use Rattle.fdb_client.specs.Programs.{commit_request_of, is_read_only}
use Rattle.fdb_proxy.specs.Requests.{place_of}
use Rattle.fdb_core.specs.declared.cluster.Cluster.{Cluster}
use Rattle.fdb_core.specs.declared.roles.commit_proxy.CommitProxyRole.{CommitProxyRole}
use Rattle.fdb_machine.specs.declared.step.Answered.TheVariants as answered
use Rattle.fdb_machine.specs.invariant.Invariant.{Invariant}
use Rattle.fdb_machine.specs.machine.ClientSteps.{submits}
use Rattle.fdb_roles.specs.Sessions.{submit_fault, OfOpen, Finishes}
use Rattle.fdb_machine.specs.declared.step.AnyStep.TheVariants as step
use Rattle.fdb_machine.specs.machine.Failures.{Failures, submits_failed, uses_failed}
use Rattle.fdb_machine.specs.machine.Machine.{Machine, is_set}
use Rattle.fdb_machine.specs.machine.Roles.{CommitProxy}
use Rattle.fdb_machine.specs.machine.Sessions.{EachOpen, Idle, Sessions, Waiting, open_at, with_state}
use Rattle.fdb_core.specs.refinement.Cluster.{machine_of, CommitProxiesRefine, Refines}
use Rattle.fdb_core.specs.refinement.Restoring.{Tied, failures_of, proxy_failed}
use Rattle.fdb_core.specs.refinement.commit_proxy.Ties.{CommitProxyRefines, known_to, ReadsWithin, seen_as}
use Rattle.fdb_machine.proofs.Exports.{submits-unrepeated, finished-read_only, finished-to_commit, open-given, open-has}
use Rattle.fdb_machine.proofs.Exports.{submits-to_commit}
use Rattle.fdb_core.proofs.refinement.RestoringLemmas.{flags-same, keeps-roles, restored}
use Rattle.fdb_core.proofs.refinement.RolesLemmas.{roles_of, roles-refine}
use Rattle.fdb_core.proofs.refinement.StepLemmas.{IsKept}
use Rattle.fdb_core.proofs.refinement.client.Sessions.{refines-sessions}
use Rattle.fdb_core.proofs.refinement.commit_proxy.Failing.{proxy-flags, proxy-tied, proxy-was}
use Rattle.fdb_core.proofs.refinement.commit_proxy.Ties.{commit_proxies-put}

-- a finished transaction was the open one of its session
module _ (sessions : Sessions) (session : ℕ) (finished : Finished)
    (is : OfOpen {T = Finished} (open_at sessions session) (Ok finished) (Finishes (Ok finished))) where
  was-open : (transcript : Transcript) × (open_at sessions session ≡ Some transcript)
      × (IsFinished transcript finished × (submit_fault transcript ≡ None))
  was-open = open-given (open_at sessions session) finished (Finishes (Ok finished)) is

  -- which wrote something, and is small enough, where it is to be committed
  pub finished-some : (sealed : Transaction) (shown : Transcript) → finished ≡ ToCommit sealed shown
      → (open_at sessions session ≡ Some shown) × (is_read_only shown ≡ false) × (submit_fault shown ≡ None)
      × (sealed ≡ commit_request_of shown)
  finished-some sealed shown shows =
      let parts = finished-to_commit was-open.0 shown sealed finished was-open.2.0 shows in (
        was-open.1 ∙ ap (λ (it : Transcript). Some it) (sym parts.2),
        ap is_read_only parts.2 ∙ parts.0,
        ap submit_fault parts.2 ∙ was-open.2.1,
        parts.1 ∙ ap commit_request_of (sym parts.2),
      )

  -- which wrote nothing, where it is handed out
  pub finished-none : (shown : Transcript) → finished ≡ ReadOnly shown
      → (open_at sessions session ≡ Some shown) × (is_read_only shown ≡ true)
  finished-none shown shows =
      let parts = finished-read_only was-open.0 shown finished was-open.2.0 shows in (
        was-open.1 ∙ ap (λ (it : Transcript). Some it) (sym parts.1),
        ap is_read_only parts.1 ∙ parts.0,
      )

-- a transaction that wrote nothing uses no proxy
pub uses-none : (m : Machine) (failed : Failures) (session proxy : ℕ) (transcript : Transcript)
    → open_at m.sessions session ≡ Some transcript → is_read_only transcript ≡ true
    → uses_failed m failed (step.Submit session proxy) ≡ false
uses-none m failed session proxy transcript opened none = rw (opened, none) refl

-- and any other one uses none that has failed, where the proxy works
pub uses-working : (m : Machine) (failed : Failures) (session proxy : ℕ) → is_set failed.commit_proxies proxy ≡ false
    → uses_failed m failed (step.Submit session proxy) ≡ false
uses-working m failed session proxy works = by (open_at m.sessions session)
  where
    by_test : (none : Bool) → (not none && is_set failed.commit_proxies proxy) ≡ false
    by_test true = refl
    by_test false = works

    by : (opened : Option Transcript) → submits_failed m failed opened proxy ≡ false
    by None = refl
    by (Some transcript) = by_test (is_read_only transcript)

-- a transaction that wrote nothing is acknowledged
pub submits-read_only : (m : Machine) (session proxy : ℕ) (commit_proxy : CommitProxy) (transcript : Transcript)
    → slice_get m.commit_proxies proxy ≡ Some commit_proxy → open_at m.sessions session ≡ Some transcript
    → is_read_only transcript ≡ true
    → submits m session proxy ≡ Ok (record {
      answer = answered.ReadOnly transcript.read_version;
      next = record m {
        sessions = with_state m.sessions session Idle;
        acknowledged = m.acknowledged ++ record
            { spot = spot.ReadOnly transcript.read_version; transcript = transcript } ∷ [];
      };
    })
unfolding submits
submits-read_only m session proxy commit_proxy transcript at opened none = rw (at, opened, none) refl

module _ (k : Cluster) (before : Refines k) (sound : Invariant (machine_of k)) (session proxy : ℕ)
    (role : CommitProxyRole) (there : slice_get k.commit_proxies.items proxy ≡ Some role) (transcript : Transcript)
    (opened : open_at k.sessions session ≡ Some transcript) where
  -- none of its id is at the proxy, and it reads within the committed version
  pub unrepeated : place_of transcript.id
      (map commit_request_of role.in_flight ++ map commit_request_of role.waiting) ≡ None
  unrepeated = submits-unrepeated (machine_of k) sound session proxy transcript (seen_as role) opened
      (map-at seen_as k.commit_proxies.items proxy role there)

  pub reads-within : transcript.read_version ≤ k.sequencer.committed
  reads-within = open-has (ReadsWithin k.sequencer.committed) k.sessions session transcript before.opened opened

  module _ (new : CommitProxyRole)
      (taken : (seen_as new ≡ record (seen_as role) { waiting = role.waiting ++ transcript ∷ [] })
      × CommitProxyRefines k.config k.book.items (known_to k.sequencer proxy) new) where
    -- what the machine does
    pub waits : is_read_only transcript ≡ false → submit_fault transcript ≡ None
        → submits (machine_of k) session proxy ≡ Ok (record {
          answer = answered.Done;
          next = record (machine_of k) {
            sessions = with_state k.sessions session Waiting;
            commit_proxies = map seen_as (slice_set k.commit_proxies.items proxy new);
          };
        })
    waits some fits =
        submits-to_commit (machine_of k) session proxy (seen_as role) transcript
        (map-at seen_as k.commit_proxies.items proxy role there) opened some fits
        ∙ (λ i. Ok (record {
          answer = answered.Done;
          next = record (machine_of k) {
            sessions = with_state k.sessions session Waiting;
            commit_proxies = sym seen i;
          };
        }))
      where
        seen : map seen_as (slice_set k.commit_proxies.items proxy new)
            ≡ slice_set (map seen_as k.commit_proxies.items) proxy
            (record (seen_as role) { waiting = role.waiting ++ transcript ∷ [] })
        seen = map-set seen_as k.commit_proxies.items proxy new
            ∙ ap (slice_set (map seen_as k.commit_proxies.items) proxy) taken.0

    pub tied : CommitProxiesRefine k.config k.book.items (known_to k.sequencer)
        (slice_set k.commit_proxies.items proxy new)
    tied = commit_proxies-put k.config k.book.items (known_to k.sequencer) k.commit_proxies.items proxy new
        before.commit_proxies taken.1

-- What a commit proxy is once room was made for one more there, or once one more waits.
module _ (config : Config) (book : List Entry) (known : Known) (role : CommitProxyRole)
    (ok : CommitProxyRefines config book known role) (later : CommitProxyRole)
    (others : later ≡ record role { state = later.state; waiting = later.waiting }) where
  module _ (proxy : Core) (list : List Transcript)
      (state : later.state.proxy ≡ record role.state.proxy { waiting = proxy.waiting }) (waits : later.waiting ≡ list)
    where
      -- its batch is the one that it had
      pub seen-waiting : seen_as later ≡ record (seen_as role) { waiting = list }
      seen-waiting = ap seen_as others ∙ (λ i. record (seen_as role) {
        waiting = waits i;
        stage = stage_of role.is_reported (state i).stage;
        verdicts_received = received_at (state i).stage;
        acknowledgements_received = acknowledged_at (state i).stage;
      })

      pub tied-waiting : proxy.waiting ≡ map commit_request_of list → AllByRecursion (ReadsWithin known.committed) list
          → CommitProxyRefines config book known later
      tied-waiting same reads = subst (CommitProxyRefines config book known) (sym others) (record {
        front = ok.front;
        behind = ok.behind;
        whole = ok.whole;
        state = subst (IsCommitProxyAt config ok.front) (sym state)
            (stays config ok.front role.state.proxy ok.state proxy.waiting role.state.proxy.batch role.state.proxy.stage
            ok.state.stage);
        unlearnt = ok.unlearnt;
        waiting = ap (λ (p : Core). p.waiting) state ∙ same ∙ ap (map commit_request_of) (sym waits);
        in_flight = ap (λ (p : Core). p.batch) state ∙ ok.in_flight;
        reads = subst (AllByRecursion (ReadsWithin known.committed)) (sym waits) reads;
        stage = subst (λ (p : Core). StageRefines role.is_reported role.entry p.stage) (sym state) ok.stage;
      })

  -- nobody more waits
  pub nobody-more : later.state.proxy ≡ role.state.proxy → later.waiting ≡ role.waiting
      → (seen_as later ≡ seen_as role) × CommitProxyRefines config book known later
  nobody-more state waits = (
    seen-waiting role.state.proxy role.waiting state waits,
    tied-waiting role.state.proxy role.waiting state waits ok.waiting ok.reads,
  )

  -- one more waits
  pub one-more : (transcript : Transcript) → transcript.read_version ≤ known.committed
      → later.state.proxy ≡ submitting role.state.proxy (commit_request_of transcript)
      → later.waiting ≡ role.waiting ++ transcript ∷ []
      → (seen_as later ≡ record (seen_as role) { waiting = role.waiting ++ transcript ∷ [] })
      × CommitProxyRefines config book known later
  one-more transcript within state waits =
      let list = role.waiting ++ transcript ∷ [] in
      let proxy = submitting role.state.proxy (commit_request_of transcript) in (
        seen-waiting proxy list state waits,
        tied-waiting proxy list state waits
            (ap (λ (all : List Transaction). all ++ commit_request_of transcript ∷ []) ok.waiting
            ∙ sym (map-append commit_request_of role.waiting (transcript ∷ [])))
            (all-push (ReadsWithin known.committed) role.waiting transcript ok.reads within),
      )

-- the world with the commit proxy as it is then
module _ (k : Cluster) (before : Refines k) (proxy : ℕ) (role : CommitProxyRole)
    (there : slice_get k.commit_proxies.items proxy ≡ Some role) (later : CommitProxyRole) (sessions : Sessions)
    (acknowledged : Vec Placed Global) where
  pub refines-submitted : CommitProxyRefines k.config k.book.items (known_to k.sequencer proxy) later
      → EachOpen (ReadsWithin k.sequencer.committed) sessions
      → Refines (record k {
        commit_proxies = with_item k.commit_proxies proxy later;
        sessions = sessions;
        acknowledged = acknowledged;
      })
  refines-submitted its opened = roles-refine (record k { sessions = sessions; acknowledged = acknowledged })
      (refines-sessions k k.grv_proxies sessions acknowledged before before.grv_proxies opened)
      (record (roles_of k) { commit_proxies = with_item k.commit_proxies proxy later })
      (commit_proxies-put k.config k.book.items (known_to k.sequencer) k.commit_proxies.items proxy later
      before.commit_proxies its) before.resolvers before.logs

  module _ (others : later ≡ record role { state = later.state; waiting = later.waiting })
      (state : later.state.proxy ≡ role.state.proxy) (waits : later.waiting ≡ role.waiting) where
    its-later : (seen_as later ≡ seen_as role)
        × CommitProxyRefines k.config k.book.items (known_to k.sequencer proxy) later
    its-later = nobody-more k.config k.book.items (known_to k.sequencer proxy) role
        (before.commit_proxies.each proxy role there) later others state waits

    -- the machine's commit proxies are as they were
    pub proxies-same : map seen_as (slice_set k.commit_proxies.items proxy later) ≡ map seen_as k.commit_proxies.items
    proxies-same =
        map-set seen_as k.commit_proxies.items proxy later
        ∙ ap (slice_set (map seen_as k.commit_proxies.items) proxy) its-later.0
        ∙ set-same (map seen_as k.commit_proxies.items) proxy (seen_as role)
        (map-at seen_as k.commit_proxies.items proxy role there)

    pub refines-room : EachOpen (ReadsWithin k.sequencer.committed) sessions
        → Refines (record k {
          commit_proxies = with_item k.commit_proxies proxy later;
          sessions = sessions;
          acknowledged = acknowledged;
        })
    refines-room opened = refines-submitted its-later.1 opened

-- the same of a proxy that works, where others may have failed
module _ (k : Cluster) (tied : Tied k) (proxy : ℕ) (role : CommitProxyRole)
    (there : slice_get k.commit_proxies.items proxy ≡ Some role) (works : proxy_failed role ≡ false)
    (later : CommitProxyRole) (sessions : Sessions) (acknowledged : Vec Placed Global)
    (others : later ≡ record role { state = later.state; waiting = later.waiting })
    (state : later.state.proxy ≡ role.state.proxy) (waits : later.waiting ≡ role.waiting) where
  was : slice_get tied.roles.commit_proxies.items proxy ≡ Some role
  was = proxy-was k tied proxy role there works

  abbrev has_room : Cluster
  has_room = record k {
    commit_proxies = with_item k.commit_proxies proxy later;
    sessions = sessions;
    acknowledged = acknowledged;
  }

  pub room-seen : map seen_as (slice_set k.commit_proxies.items proxy later) ≡ map seen_as k.commit_proxies.items
  room-seen = flags-same seen_as k.commit_proxies.items proxy role later there
      (its-later (restored k tied) tied.refines proxy role was later sessions acknowledged others state waits).0

  pub room-failed : failures_of has_room ≡ failures_of k
  room-failed = proxy-flags k has_room proxy role later there refl refl refl refl
      (ap (λ (p : Core). p.is_failed) state)

  pub room-tied : EachOpen (ReadsWithin k.sequencer.committed) sessions → Tied has_room
  room-tied opened = proxy-tied k tied proxy later has_room refl refl refl refl
      (refines-room (restored k tied) tied.refines proxy role was later sessions acknowledged others state waits opened)

  -- where nobody comes, the world is as before
  pub nobody-comes : sessions ≡ k.sessions → acknowledged.items ≡ k.acknowledged.items → IsKept k has_room
  nobody-comes same told = record {
    machine = λ i. record (machine_of k) {
      commit_proxies = room-seen i;
      sessions = same i;
      acknowledged = told i;
    };
    failed = room-failed;
    tied = room-tied (subst (EachOpen (ReadsWithin k.sequencer.committed)) (sym same) tied.refines.opened);
  }

-- where sessions change, and who is acknowledged, the open transactions alone matter
pub acknowledged-tied : (k : Cluster) (tied : Tied k) (sessions : Sessions) (acknowledged : Vec Placed Global)
    → EachOpen (ReadsWithin k.sequencer.committed) sessions
    → Tied (record k { sessions = sessions; acknowledged = acknowledged })
acknowledged-tied k tied sessions acknowledged opened = keeps-roles k tied _ refl refl refl refl
    (refines-sessions (restored k tied) k.grv_proxies sessions acknowledged tied.refines tied.refines.grv_proxies
    opened)

-- room that is made for one more leaves the world as it was
pub room-kept : (k : Cluster) → Tied k → (sessions : Sessions) (acknowledged : Vec Placed Global)
    → sessions ≡ k.sessions → acknowledged.items ≡ k.acknowledged.items
    → IsKept k (record k { sessions = sessions; acknowledged = acknowledged })
room-kept k tied sessions acknowledged same told = record {
  machine = λ i. record (machine_of k) { sessions = same i; acknowledged = told i };
  failed = refl;
  tied = acknowledged-tied k tied sessions acknowledged
      (subst (EachOpen (ReadsWithin k.sequencer.committed)) (sym same) tied.refines.opened);
}

-- none of the session's id is at the state, if it has an open transaction
pub none-repeated : (k : Cluster) → Refines k → Invariant (machine_of k) → (session proxy : ℕ) (role : CommitProxyRole)
    → slice_get k.commit_proxies.items proxy ≡ Some role
    → IfSome (open_at k.sessions session) (λ (transcript : Transcript).
    place_of transcript.id (role.state.proxy.batch ++ role.state.proxy.waiting) ≡ None)
none-repeated k before sound session proxy role there = by (open_at k.sessions session) refl
  where
    ok : CommitProxyRefines k.config k.book.items (known_to k.sequencer proxy) role
    ok = before.commit_proxies.each proxy role there

    by : (opened : Option Transcript) → open_at k.sessions session ≡ opened
        → IfSome opened (λ (transcript : Transcript).
        place_of transcript.id (role.state.proxy.batch ++ role.state.proxy.waiting) ≡ None)
    by None is = tt
    by (Some transcript) is =
        ap₂ (λ (batch waiting : List Transaction). place_of transcript.id (batch ++ waiting)) ok.in_flight ok.waiting
        ∙ unrepeated k before sound session proxy role there transcript is
