-- The walk over the steps of all kinds: what accepted steps change, and what they keep.
use Rattle.std.proofs.Common.{◌≡◌, ◌∙◌, ◌<◌, ◌≤◌, refl, ap, ℕ, suc, ◌+◌, min, max, Bool, true, false, not, List, []}
use Rattle.std.proofs.Common.{◌∷◌, ◌++◌, take, map, length, fold, Option, Some, None, Result, Ok, Err, inl, inr, arith}
use Rattle.std.specs.Prelude.{nat_lt, nat_le, ◌||◌, if◌then◌else◌}
use Rattle.std.specs.List.{slice_get, slice_set, list_any}
use Rattle.std.proofs.lemmas.Bool.{and_parts, or_parts, eqb-true, not-false, ltb-false, leb-false, leb-true}
use Rattle.fdb_keys.specs.Ranges.{Range, is_empty_range}
use Rattle.fdb_keys.specs.declared.refusal.Refusal.{Refusal}
use Rattle.fdb_keys.specs.declared.refusal.Refusal.TheVariants.{BadConfig}
use Rattle.fdb_mutations.specs.Mutations.{mutation_fault}
use Rattle.fdb_txn.specs.Limits.{place_limit, move_limit, version_limit, window}
use Rattle.fdb_txn.specs.declared.entry.Entry.{Entry}
use Rattle.fdb_txn.specs.declared.spot.Spot.TheVariants as spot
use Rattle.fdb_txn.specs.book.Book.{seen_of, last_version, seen_before}
use Rattle.fdb_txn.specs.rules.SerialMap.{serial_map_at}
use Rattle.fdb_txn.specs.book.Size.{size_fault}
use Rattle.fdb_sequencer.specs.Sequencer.{next_version, set_window_fault, is_count}
use Rattle.fdb_log.specs.Messages.{log_of}
use Rattle.fdb_proxy.specs.Verdicts.{is_needed, outcomes_on}
use Rattle.fdb_client.specs.declared.program.Op.{Op}
use Rattle.fdb_client.specs.declared.program.Op.TheVariants as op
use Rattle.fdb_client.specs.declared.program.Transcript.{Transcript}
use Rattle.fdb_client.specs.Programs.{program, copy, reply_on, commit_request_of, is_read_only}
use Rattle.fdb_roles.specs.Entries.{moves_in}
use Rattle.fdb_machine.specs.machine.Roles.{CommitProxy, Stage, Idle, Resolving, Logging, Reported, ShardProgress}
use Rattle.fdb_machine.specs.machine.Roles.{Sender, FromResolver, FromLog}
use Rattle.fdb_machine.specs.headline.Traces.{after_steps}
use Rattle.fdb_machine.specs.machine.ClientSteps.{reads, writes, adds_read, adds_write, submits, answered_by}
use Rattle.fdb_machine.specs.machine.ClientSteps.{add_operation, fault_after}
use Rattle.fdb_machine.specs.machine.GrvProxySteps.{asks, grants, has_no_number}
use Rattle.fdb_machine.specs.machine.CommitProxySteps.{seals, taken_by_sender, awaits, with_received, receives, decides}
use Rattle.fdb_machine.specs.machine.CommitProxySteps.{reports, answers, is_idle, is_resolving, is_logging, is_reported}
use Rattle.fdb_machine.specs.machine.CommitProxySteps.{placed_from, replies_from}
use Rattle.fdb_machine.specs.machine.Machine.{Machine, Transition, is_set, first_missing}
use Rattle.fdb_machine.specs.machine.RoleSteps.{version_of_shard, resolves, pushes, pulls, forgets, pops}
use Rattle.fdb_machine.specs.machine.SequencerSteps.{moves, sets_window}
use Rattle.fdb_machine.specs.machine.Sessions.{Idle as Free, Asking, Waiting, session_of, open_at, with_state, is_busy}
use Rattle.fdb_machine.specs.machine.Sessions.{serve, tell_all}
use Rattle.fdb_machine.specs.machine.Steps.{next, after}
use Rattle.fdb_machine.proofs.headline.TraceLaws.{kept-after_steps}
use Rattle.fdb_machine.proofs.machine.LogLemmas.{Grew, AcknowledgementCame, grew-same, grew-set}
use Rattle.fdb_machine.proofs.machine.AcceptedTransitions.{IfAccepted, past-found, past-test, past-fault, past-wait}
use Rattle.fdb_machine.proofs.machine.AcceptedTransitions.{past-turn, past-choice, past-open}
use Rattle.fdb_machine.proofs.machine.RoleChanges.{RoleWent, ProxyWent}
use Rattle.fdb_machine.proofs.machine.Sealing.{sealed_machine}
use Rattle.fdb_machine.specs.declared.step.Answered.{Answered}
use Rattle.fdb_machine.specs.declared.step.Answered.TheVariants as answered
use Rattle.fdb_machine.specs.machine.AnyStep.{Step}
use Rattle.fdb_machine.specs.declared.step.AnyStep.TheVariants as step

-- the operation of a client's step, with its session
abbrev pub operation_of : Step → Option (ℕ × Op)
operation_of (step.Get session key snapshot) = Some (session, op.Get key snapshot)
operation_of (step.GetRange session range limit is_reverse snapshot) =
    Some (session, op.Range range limit is_reverse snapshot)
operation_of (step.Write session mutation) = Some (session, op.Write mutation)
operation_of (step.AddRead session range) = Some (session, op.AddRead range)
operation_of (step.AddWrite session range) = Some (session, op.AddWrite range)
operation_of one_step = None

-- a window without a fault is at least 1 and at most the greatest one
pub window-legal : (width : ℕ) → set_window_fault width ≡ None → (1 ≤ width) × (width ≤ window)
window-legal width faultless = by_test (is_count window width) refl faultless
  where
    by_test : (test : Bool) → is_count window width ≡ test
        → Path (Option Refusal) (if test then None else Some BadConfig) None → (1 ≤ width) × (width ≤ window)
    by_test true counts none =
        let parts = and_parts (nat_le 1 width) (nat_le width window) counts in
        (leb-true 1 width parts.0, leb-true width window parts.1)
    by_test false counts none = cc

-- the step is one of a role that tells clients nothing
abbrev pub is_quiet : Step → Bool
is_quiet (step.Resolve i resolver) = true
is_quiet (step.Verdict i resolver) = true
is_quiet (step.Decide proxy) = true
is_quiet (step.Push i log) = true
is_quiet (step.Logged i log) = true
is_quiet (step.Pull shard limit) = true
is_quiet (step.Forget shard version) = true
is_quiet (step.Pop shard) = true
is_quiet one_step = false

-- What accepted steps do, by the fields that they change. The relation is between the machine, the step with its
-- answer, and the machine after the step.
pub record HoldsOfSteps (R : Machine → Step → Answered → Machine → Type 0) : Type 0 where
  -- resolvers, logs and shards went on (Resolve, Push, Pull, Forget, Pop)
  pub roles : (m : Machine) (one_step : Step) (answer : Answered) (resolvers logs : List ℕ)
      (shards : List ShardProgress)
      → is_quiet one_step ≡ true → Grew m.logs logs → RoleWent m one_step answer resolvers logs shards
      → R m one_step answer (record m { resolvers = resolvers; logs = logs; shards = shards })
  -- a session that neither asks nor waits asks (Ask)
  pub asked : (m : Machine) (session proxy : ℕ) (there : List ℕ) → slice_get m.grv_proxies proxy ≡ Some there
      → is_busy (session_of m.sessions session).state ≡ false
      → R m (step.Ask session proxy) answered.Done (record m {
        sessions = with_state m.sessions session Asking;
        grv_proxies = slice_set m.grv_proxies proxy (there ++ session ∷ []);
      })
  -- those who ask are served, each of whom has a number left (Grant)
  pub granted : (m : Machine) (proxy : ℕ) (there : List ℕ) → slice_get m.grv_proxies proxy ≡ Some there
      → list_any (has_no_number m.sessions) there ≡ false
      → R m (step.Grant proxy) (answered.Granted (map (λ (session : ℕ). (session, m.committed)) there)) (record m {
        sessions = fold (serve m.committed) m.sessions there;
        grv_proxies = slice_set m.grv_proxies proxy [];
      })
  -- an operation that isn't refused went to a session's open transaction, with its reply (Get, GetRange, Write,
  -- AddRead, AddWrite)
  pub operated : (m : Machine) (one_step : Step) (session : ℕ) (transcript : Transcript) (operation : Op)
      → operation_of one_step ≡ Some (session, operation) → open_at m.sessions session ≡ Some transcript
      → fault_after m transcript operation ≡ None
      → let there = serial_map_at m.config.resolver_splits transcript.read_version (seen_of m.book).places in
      let reply = reply_on (copy there (program transcript.ops)) operation in
      R m one_step (answered_by reply) (add_operation m session transcript operation reply)
  -- a session's transaction that writes nothing is acknowledged (Submit)
  pub read_only : (m : Machine) (session proxy : ℕ) (transcript : Transcript)
      → open_at m.sessions session ≡ Some transcript → is_read_only transcript ≡ true
      → R m (step.Submit session proxy) (answered.ReadOnly transcript.read_version) (record m {
        sessions = with_state m.sessions session Free;
        acknowledged = m.acknowledged ++ record
            { spot = spot.ReadOnly transcript.read_version; transcript = transcript } ∷ [];
      })
  -- any other waits at a commit proxy (Submit)
  pub submitted : (m : Machine) (session proxy : ℕ) (commit_proxy : CommitProxy) (transcript : Transcript)
      → slice_get m.commit_proxies proxy ≡ Some commit_proxy → open_at m.sessions session ≡ Some transcript
      → is_read_only transcript ≡ false
      → R m (step.Submit session proxy) answered.Done (record m {
        sessions = with_state m.sessions session Waiting;
        commit_proxies = slice_set m.commit_proxies proxy
            (record commit_proxy { waiting = commit_proxy.waiting ++ transcript ∷ [] });
      })
  -- a proxy made those who wait the batch of the next entry, where a version and a place in the book are left (Seal)
  pub sealed : (m : Machine) (proxy advance : ℕ) (commit_proxy : CommitProxy)
      → slice_get m.commit_proxies proxy ≡ Some commit_proxy → commit_proxy.stage ≡ Idle
      → next_version (last_version m.book) advance ≤ version_limit → length m.book < m.config.book
      → let prev = last_version m.book in
      R m (step.Seal proxy advance)
      (answered.Issued (length m.book) (next_version prev advance) prev
      (length (take place_limit commit_proxy.waiting)))
      (sealed_machine m proxy advance commit_proxy)
  -- a proxy went on with its batch, which isn't reported; of logs those acknowledged it that took its entry (Verdict,
  -- Decide, Logged)
  pub went_on : (m : Machine) (one_step : Step) (answer : Answered) (proxy : ℕ) (commit_proxy : CommitProxy)
      (stage : Stage) (decided verdicts_received acknowledgements_received : List Bool)
      → is_quiet one_step ≡ true
      → AcknowledgementCame m.logs commit_proxy stage acknowledgements_received
      → slice_get m.commit_proxies proxy ≡ Some commit_proxy → is_idle commit_proxy.stage ≡ false
      → is_idle stage ≡ false → is_reported stage ≡ false
      → ProxyWent m one_step answer proxy commit_proxy stage decided verdicts_received acknowledgements_received
      → R m one_step answer (record m {
        decided = decided;
        commit_proxies = slice_set m.commit_proxies proxy (record commit_proxy {
          stage = stage;
          verdicts_received = verdicts_received;
          acknowledgements_received = acknowledgements_received;
        });
      })
  -- a proxy reported its batch, once each log acknowledged it (Report)
  pub reported_version : (m : Machine) (proxy : ℕ) (commit_proxy : CommitProxy) (entry : Entry)
      → slice_get m.commit_proxies proxy ≡ Some commit_proxy → commit_proxy.stage ≡ Logging
      → slice_get m.book commit_proxy.entry ≡ Some entry
      → first_missing (λ log. true) 0 commit_proxy.acknowledgements_received ≡ None
      → R m (step.Report proxy) (answered.Version (max m.committed entry.version)) (record m {
        committed = max m.committed entry.version;
        commit_proxies = slice_set m.commit_proxies proxy (record commit_proxy { stage = Reported });
      })
  -- a move to a resolver that exists waits for the next entry (Move)
  pub moved : (m : Machine) (range : Range) (to : ℕ) → to < suc (length m.config.resolver_splits)
      → R m (step.Move range to) answered.Done
      (record m { pending = m.pending ++ record { range = range; to = to } ∷ [] })
  -- a window is set, which is at least 1 and at most the greatest one (Window)
  pub windowed : (m : Machine) (width : ℕ) → (1 ≤ width) × (width ≤ window)
      → R m (step.Window width) answered.Done (record m { window = width })
  -- a proxy told the clients of its reported batch (Answer)
  pub told : (m : Machine) (proxy : ℕ) (commit_proxy : CommitProxy) (entry : Entry)
      → slice_get m.commit_proxies proxy ≡ Some commit_proxy → commit_proxy.stage ≡ Reported
      → slice_get m.book commit_proxy.entry ≡ Some entry
      → let outcomes = outcomes_on m.config.resolver_splits (seen_before m.book commit_proxy.entry) entry in
      R m (step.Answer proxy) (answered.Answers (replies_from commit_proxy.in_flight outcomes)) (record m {
        acknowledged = m.acknowledged ++ placed_from commit_proxy.entry commit_proxy.in_flight outcomes;
        sessions = tell_all commit_proxy.in_flight m.sessions;
        commit_proxies = slice_set m.commit_proxies proxy
            (record commit_proxy { in_flight = []; stage = Idle; acknowledgements_received = [] });
      })

-- the number after an entry's
next-number : (taken i : ℕ) → taken ≡ i → taken + 1 ≡ suc i
next-number taken i its = omega (arith, its)

-- a stage by its tests
pub stage-is : (stage : Stage)
    → (is_idle stage ≡ true → stage ≡ Idle) × (is_resolving stage ≡ true → stage ≡ Resolving)
    × (is_logging stage ≡ true → stage ≡ Logging) × (is_reported stage ≡ true → stage ≡ Reported)
stage-is Idle = (λ is. refl, λ is. cc, λ is. cc, λ is. cc)
stage-is Resolving = (λ is. cc, λ is. refl, λ is. cc, λ is. cc)
stage-is Logging = (λ is. cc, λ is. cc, λ is. refl, λ is. cc)
stage-is Reported = (λ is. cc, λ is. cc, λ is. cc, λ is. refl)

module _ (R : Machine → Step → Answered → Machine → Type 0) (holds : HoldsOfSteps R) where
  -- between the machine and where a step takes it
  abbrev Leads : Machine → Step → Transition → Type 0
  Leads m one_step transition = R m one_step transition.answer transition.next

  -- what a proxy waits for comes
  received : (m : Machine) (one_step : Step) (proxy : ℕ) (commit_proxy : CommitProxy) (i : ℕ) (sender : Sender)
      → is_quiet one_step ≡ true → slice_get m.commit_proxies proxy ≡ Some commit_proxy
      → awaits commit_proxy i sender ≡ true
      → (has : ℕ) → taken_by_sender m sender ≡ Some has → nat_le has i ≡ false
      → ProxyWent m one_step answered.Done proxy commit_proxy commit_proxy.stage m.decided
      (with_received commit_proxy sender).verdicts_received
      (with_received commit_proxy sender).acknowledgements_received
      → R m one_step answered.Done
      (record m { commit_proxies = slice_set m.commit_proxies proxy (with_received commit_proxy sender) })
  received m one_step proxy commit_proxy i (FromResolver resolver) quiet at awaited has there later went =
      let stage = (stage-is commit_proxy.stage).1 (and_parts _ _ (and_parts _ _ awaited).0).0 in
      holds.went_on m one_step answered.Done proxy commit_proxy commit_proxy.stage m.decided _ _ quiet
      (inl (ap is_logging stage)) at
      (ap is_idle stage) (ap is_idle stage) (ap is_reported stage) went
  received m one_step proxy commit_proxy i (FromLog log) quiet at awaited has there later went =
      let parts = and_parts _ _ (and_parts _ _ awaited).0 in
      let stage = (stage-is commit_proxy.stage).2 parts.0 in
      let its : commit_proxy.entry ≡ i = eqb-true commit_proxy.entry i parts.1 in
      let after : commit_proxy.entry < has = let above = leb-false has i later in omega (arith, its, above) in
      holds.went_on m one_step answered.Done proxy commit_proxy commit_proxy.stage m.decided _ _ quiet
      (inr (inr (ap is_logging stage, log, has, there, after, refl))) at (ap is_idle stage) (ap is_idle stage)
      (ap is_reported stage) went

  -- an operation that reads goes to the session's open transaction
  reads-operated : (m : Machine) (one_step : Step) (session : ℕ) (operation : Op)
      → operation_of one_step ≡ Some (session, operation) → IfAccepted (Leads m one_step) (reads m session operation)
  unfolding reads
  reads-operated m one_step session operation is =
      past-open _ (open_at m.sessions session) _ (λ transcript opened.
      past-fault _ (fault_after m transcript operation) _
      (holds.operated m one_step session transcript operation is opened))

  -- it holds of every accepted step
  pub holds-next : (m : Machine) (one_step : Step) → IfAccepted (Leads m one_step) (next m one_step)
  unfolding asks grants writes adds_read adds_write submits seals resolves receives decides pushes reports answers
      pulls forgets pops moves sets_window
  holds-next m (step.Ask session proxy) =
      past-found _ (slice_get m.grv_proxies proxy) _ (λ there at.
      past-test _ (is_busy (session_of m.sessions session).state) _ _
      (λ free. holds.asked m session proxy there at free))
  holds-next m (step.Grant proxy) =
      past-found _ (slice_get m.grv_proxies proxy) _ (λ there at.
      past-test _ (list_any (has_no_number m.sessions) there) _ _
      (λ left. holds.granted m proxy there at left))
  holds-next m (step.Get session key snapshot) =
      reads-operated m (step.Get session key snapshot) session (op.Get key snapshot) refl
  holds-next m (step.GetRange session range limit is_reverse snapshot) =
      reads-operated m (step.GetRange session range limit is_reverse snapshot) session
      (op.Range range limit is_reverse snapshot) refl
  holds-next m (step.Write session mutation) =
      past-open _ (open_at m.sessions session) _ (λ transcript opened.
      past-fault _ (mutation_fault mutation) _ (λ _.
      holds.operated m (step.Write session mutation) session transcript (op.Write mutation) refl opened refl))
  holds-next m (step.AddRead session range) =
      past-open _ (open_at m.sessions session) _ (λ transcript opened.
      holds.operated m (step.AddRead session range) session transcript (op.AddRead range) refl opened refl)
  holds-next m (step.AddWrite session range) =
      past-open _ (open_at m.sessions session) _ (λ transcript opened.
      holds.operated m (step.AddWrite session range) session transcript (op.AddWrite range) refl opened refl)
  holds-next m (step.Submit session proxy) =
      past-found _ (slice_get m.commit_proxies proxy) _ (λ commit_proxy at.
      past-open _ (open_at m.sessions session) _ (λ transcript opened.
      past-choice _ (is_read_only transcript) _ _ (holds.read_only m session proxy transcript opened)
      (λ writes. past-fault _ (size_fault (commit_request_of transcript)) _
      (λ _. holds.submitted m session proxy commit_proxy transcript at opened writes))))
  holds-next m (step.Seal proxy advance) =
      past-found _ (slice_get m.commit_proxies proxy) _ (λ commit_proxy at.
      past-test _ (not (is_idle commit_proxy.stage)) _ _ (λ idle.
      past-test _ (nat_lt version_limit (next_version (last_version m.book) advance)) _ _ (λ few.
      past-test _ (nat_le m.config.book (length m.book)) _ _ (λ room.
      holds.sealed m proxy advance commit_proxy at ((stage-is commit_proxy.stage).0 (not-false _ idle))
      (ltb-false _ _ few) (leb-false _ _ room)))))
  holds-next m (step.Resolve i resolver) =
      past-found _ (slice_get m.book i) _ (λ entry there. past-found _ (slice_get m.resolvers resolver) _ (λ taken at.
      past-turn _ taken i entry _ (λ its.
      holds.roles m (step.Resolve i resolver) _ (slice_set m.resolvers resolver (taken + 1)) m.logs m.shards refl
      (grew-same m.logs) (record {
        entry = entry;
        entry_is = there;
        its_turn = at ∙ ap Some its;
        answer_is = refl;
        resolvers_are = ap (slice_set m.resolvers resolver) (next-number taken i its);
        logs_are = refl;
        shards_are = refl;
      }))))
  holds-next m (step.Verdict i resolver) =
      past-found _ (taken_by_sender m (FromResolver resolver)) _ (λ has there. past-test _ (nat_le has i) _ _ (λ later.
      past-found _ (slice_get m.entry_proxies i) _
      (λ proxy its. past-found _ (slice_get m.commit_proxies proxy) _ (λ commit_proxy at.
      past-test _ (not (awaits commit_proxy i (FromResolver resolver))) _ _
      (λ awaited. received m (step.Verdict i resolver) proxy commit_proxy i (FromResolver resolver) refl at
      (not-false _ awaited) has there later (record {
        awaited = not-false _ awaited;
        proxy_is = its;
        taken = has;
        taken_is = there;
        took = leb-false has i later;
        answer_is = refl;
        stage_is = refl;
        decided_is = refl;
        verdicts_are = refl;
        acknowledgements_are = refl;
      }))))))
  holds-next m (step.Decide proxy) =
      past-found _ (slice_get m.commit_proxies proxy) _ (λ commit_proxy at.
      past-test _ (not (is_resolving commit_proxy.stage)) _ _ (λ resolving.
      past-found _ (slice_get m.book commit_proxy.entry) _ (λ entry there.
      let before = seen_before m.book commit_proxy.entry in
      past-wait _ (first_missing (λ resolver. is_needed m.config.resolver_splits resolver before entry) 0
      commit_proxy.verdicts_received) _ (λ whole.
      let was = (stage-is commit_proxy.stage).1 (not-false _ resolving) in
      holds.went_on m (step.Decide proxy) _ proxy commit_proxy Logging _ _ _ refl (inr (inl refl)) at
      (ap is_idle was) refl refl (record {
        own_is = refl;
        was_resolving = was;
        entry = entry;
        entry_is = there;
        whole = whole;
        answer_is = refl;
        stage_is = refl;
        decided_is = refl;
        verdicts_are = refl;
        acknowledgements_are = refl;
      })))))
  holds-next m (step.Push i log) =
      past-found _ (slice_get m.book i) _ (λ entry there. past-found _ (slice_get m.logs log) _ (λ taken at.
      past-test _ (not (is_set m.decided i)) _ _
      (λ decided. past-turn _ taken i entry _ (λ its.
      holds.roles m (step.Push i log) _ m.resolvers (slice_set m.logs log (taken + 1)) m.shards refl
      (grew-set m.logs log taken at) (record {
        entry = entry;
        entry_is = there;
        decided_is = not-false _ decided;
        its_turn = at ∙ ap Some its;
        answer_is = refl;
        resolvers_are = refl;
        logs_are = ap (slice_set m.logs log) (next-number taken i its);
        shards_are = refl;
      })))))
  holds-next m (step.Logged i log) =
      past-found _ (taken_by_sender m (FromLog log)) _ (λ has there. past-test _ (nat_le has i) _ _ (λ later.
      past-found _ (slice_get m.entry_proxies i) _
      (λ proxy its. past-found _ (slice_get m.commit_proxies proxy) _ (λ commit_proxy at.
      past-test _ (not (awaits commit_proxy i (FromLog log))) _ _
      (λ awaited. received m (step.Logged i log) proxy commit_proxy i (FromLog log) refl at (not-false _ awaited) has
      there later (record {
        awaited = not-false _ awaited;
        proxy_is = its;
        taken = has;
        taken_is = there;
        took = leb-false has i later;
        answer_is = refl;
        stage_is = refl;
        decided_is = refl;
        verdicts_are = refl;
        acknowledgements_are = refl;
      }))))))
  holds-next m (step.Report proxy) =
      past-found _ (slice_get m.commit_proxies proxy) _ (λ commit_proxy at.
      past-test _ (not (is_logging commit_proxy.stage)) _ _ (λ logging.
      past-found _ (slice_get m.book commit_proxy.entry) _ (λ entry there.
      past-wait _ (first_missing (λ log. true) 0 commit_proxy.acknowledgements_received) _ (λ whole.
      holds.reported_version m proxy commit_proxy entry at ((stage-is commit_proxy.stage).2 (not-false _ logging))
      there whole))))
  holds-next m (step.Answer proxy) =
      past-found _ (slice_get m.commit_proxies proxy) _ (λ commit_proxy at.
      past-test _ (is_idle commit_proxy.stage) _ _ (λ _.
      past-found _ (slice_get m.book commit_proxy.entry) _ (λ entry there.
      past-test _ (not (is_reported commit_proxy.stage)) _ _ (λ is_reported.
      holds.told m proxy commit_proxy entry at ((stage-is commit_proxy.stage).3 (not-false _ is_reported)) there))))
  holds-next m (step.Pull shard limit) =
      past-found _ (slice_get m.shards shard) _
      (λ progress at. past-found _ (slice_get m.logs (log_of (length m.logs) shard)) _ (λ has there.
      holds.roles m (step.Pull shard limit) _ m.resolvers m.logs
      (slice_set m.shards shard
      (record progress { applied = max progress.applied (min has (progress.applied + limit)) })) refl (grew-same m.logs)
      (record {
        progress = progress;
        progress_is = at;
        has = has;
        has_is = there;
        answer_is = refl;
        resolvers_are = refl;
        logs_are = refl;
        shards_are = refl;
      })))
  holds-next m (step.Forget shard version) =
      past-found _ (slice_get m.shards shard) _ (λ progress at.
      past-test _ (nat_lt (version_of_shard m.book progress) version) _ _ (λ served.
      holds.roles m (step.Forget shard version) _ m.resolvers m.logs
      (slice_set m.shards shard (record progress { floor = max progress.floor version })) refl (grew-same m.logs)
      (record {
        progress = progress;
        progress_is = at;
        served = ltb-false _ _ served;
        answer_is = refl;
        resolvers_are = refl;
        logs_are = refl;
        shards_are = refl;
      })))
  holds-next m (step.Pop shard) =
      past-found _ (slice_get m.shards shard) _ (λ progress at.
      holds.roles m (step.Pop shard) _ m.resolvers m.logs
      (slice_set m.shards shard (record progress { popped = version_of_shard m.book progress })) refl
      (grew-same m.logs) (record {
        progress = progress;
        progress_is = at;
        answer_is = refl;
        resolvers_are = refl;
        logs_are = refl;
        shards_are = refl;
      }))
  holds-next m (step.Move range to) =
      let resolvers = suc (length m.config.resolver_splits) in
      past-test _ (nat_le resolvers to || is_empty_range range) _ _ (λ legal.
      past-test _ (nat_le move_limit (moves_in m.book + length m.pending)) _ _ (λ _.
      holds.moved m range to
      (leb-false resolvers to (or_parts (nat_le resolvers to) (is_empty_range range) legal).0)))
  holds-next m (step.Window width) =
      past-fault _ (set_window_fault width) _ (λ legal. holds.windowed m width (window-legal width legal))

-- What steps keep.
abbrev pub KeptBySteps : (Machine → Type 0) → Type 0
KeptBySteps P = HoldsOfSteps (λ m one_step answer after. P m → P after)

module _ (P : Machine → Type 0) (keep : KeptBySteps P) where
  -- every step keeps it, refused ones too
  pub kept-next : (m : Machine) (one_step : Step) → P m → P (after m (next m one_step))
  kept-next m one_step =
      by_result (next m one_step) (holds-next (λ m one_step answer after. P m → P after) keep m one_step)
    where
      by_result : (result : Result Transition Refusal) → IfAccepted (λ transition. P m → P transition.next) result
          → P m → P (after m result)
      by_result (Ok transition) keeps = keeps
      by_result (Err refusal) keeps = λ holds. holds

  -- and every trace
  pub kept-by_trace : (m : Machine) (steps : List Step) (given : List (Result Answered Refusal)) → P m
      → P (after_steps m steps given)
  kept-by_trace = kept-after_steps P kept-next
