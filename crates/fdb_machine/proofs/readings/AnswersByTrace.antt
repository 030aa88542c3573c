-- Each accepted step is answered by what the trace told before.
use Rattle.std.proofs.Common.{◌≡◌, ◌∙◌, refl, sym, ap, subst, ⊎_elim, ℕ, max, Bool, true, false, not, List, []}
use Rattle.std.proofs.Common.{◌∷◌, map, length, take, Some}
use Rattle.std.proofs.Common.{Result, Ok, Err}
use Rattle.std.specs.List.{AllByRecursion, slice_get}
use Rattle.std.specs.FinMap.{get}
use Rattle.std.proofs.lemmas.Option.{same_Some}
use Rattle.fdb_keys.specs.declared.refusal.Refusal.{Refusal}
use Rattle.fdb_keys.specs.Points.{Point}
use Rattle.fdb_mutations.specs.PairLaws.{given_of, scanned_of}
use Rattle.fdb_txn.specs.Limits.{place_limit}
use Rattle.fdb_txn.specs.declared.entry.Entry.{Entry}
use Rattle.fdb_txn.specs.book.Book.{seen_of, last_version, seen_before}
use Rattle.fdb_txn.specs.rules.SerialMap.{serial_map_at}
use Rattle.fdb_proxy.specs.declared.config.Config.{Config}
use Rattle.fdb_proxy.specs.Verdicts.{outcomes_on}
use Rattle.fdb_proxy.specs.declared.outcome.Outcome.{Outcome}
use Rattle.fdb_client.specs.declared.program.Op.{Op}
use Rattle.fdb_client.specs.declared.program.Op.TheVariants as op
use Rattle.fdb_client.specs.declared.program.Transcript.{Transcript}
use Rattle.fdb_client.specs.Programs.{program, copy, reply_on, commit_request_of}
use Rattle.fdb_client.specs.Unreadable.{reads_readable, unreadable_in}
use Rattle.fdb_roles.proofs.Exports.{all-at}
use Rattle.fdb_machine.specs.headline.Answers.{IsAnswered, AreReplies, HasOpened, AnsweredByTheTrace}
use Rattle.fdb_machine.specs.headline.Readings.{Readings, SealedBatch, read, readings_of}
use Rattle.fdb_machine.specs.invariant.Invariant.{Invariant, CommitProxyIsSound}
use Rattle.fdb_machine.specs.machine.ClientSteps.{answered_by}
use Rattle.fdb_machine.specs.machine.CommitProxySteps.{is_idle, replies_from}
use Rattle.fdb_machine.specs.machine.Failures.{State}
use Rattle.fdb_machine.specs.machine.Machine.{Machine, Transition}
use Rattle.fdb_machine.specs.machine.Roles.{CommitProxy, Reported}
use Rattle.fdb_machine.specs.machine.Steps.{next, answer_of}
use Rattle.fdb_machine.specs.machine.Worlds.{start, first_state, IsRun}
use Rattle.fdb_machine.proofs.headline.RunsLemmas.{IsMachineStep, machine-step, run-last}
use Rattle.fdb_machine.proofs.headline.TraceLaws.{traces_tell}
use Rattle.fdb_machine.proofs.invariant.SerializedLemmas.{wrote_nothing}
use Rattle.fdb_machine.proofs.invariant.SessionPlaces.{in_flight_once}
use Rattle.fdb_machine.proofs.invariant.SoundLaws.{sound_steps, sound-trace}
use Rattle.fdb_machine.proofs.invariant.SoundLemmas.{sessions-stand}
use Rattle.fdb_machine.proofs.machine.AcceptedTransitions.{IfAccepted}
use Rattle.fdb_machine.proofs.machine.Steps.{HoldsOfSteps, holds-next, kept-by_trace, operation_of}
use Rattle.fdb_machine.proofs.machine.UnreadableLemmas.{allowed-readable}
use Rattle.fdb_machine.proofs.readings.Agreement.{TellsMachine}
use Rattle.fdb_machine.proofs.readings.SessionLists.{found-told}
use Rattle.fdb_machine.proofs.readings.AnswerReplies.{replies-of}
use Rattle.fdb_machine.proofs.readings.RoleAgreement.{TellsRoles}
use Rattle.fdb_machine.proofs.readings.RoleAnswers.{HasRoles, role-answered, proxy-answered, roles_stay, roles-start}
use Rattle.fdb_machine.proofs.readings.StepReadings.{batch-at, tells_steps}
use Rattle.fdb_machine.proofs.readings.TraceReadings.{config-kept, trace-tells, trace-tells-roles}
use Rattle.fdb_machine.specs.declared.step.Answered.{Answered}
use Rattle.fdb_machine.specs.declared.step.Answered.TheVariants as answered
use Rattle.fdb_machine.specs.machine.AnyStep.{Step}
use Rattle.fdb_machine.specs.declared.step.AnyStep.TheVariants as step

-- an accepted step is answered by what is told of the machine
abbrev AnswersTold : Machine → Step → Answered → Machine → Type 0
AnswersTold m taken answer after =
    (r : Readings) → HasRoles m → Invariant m → TellsMachine r m → TellsRoles r m → IsAnswered m.config r taken answer

-- all who ask are told the same version
all-granted : (version reported : ℕ) (sessions : List ℕ) → version ≡ reported
    → AllByRecursion (λ (grant : ℕ × ℕ). grant.1 ≡ reported) (map (λ (session : ℕ). (session, version)) sessions)
all-granted version reported [] same = tt
all-granted version reported (session ∷ sessions) same = (same, all-granted version reported sessions same)

-- what is readable isn't unreadable
readable-key : {hidden : Bool} → not hidden ≡ true → hidden ≡ false
readable-key {hidden = true} is = cc
readable-key {hidden = false} is = refl

-- an operation is replied from the map at the read version
operation-answered : (config : Config) (r : Readings) (book : List Entry) (taken : Step) (session : ℕ)
    (operation : Op) (transcript : Transcript)
    → r.book ≡ book → HasOpened r session transcript → operation_of taken ≡ Some (session, operation)
    → reads_readable (serial_map_at config.resolver_splits transcript.read_version (seen_of book).places)
    (program transcript.ops) operation ≡ true
    → IsAnswered config r taken (answered_by (reply_on
    (copy (serial_map_at config.resolver_splits transcript.read_version (seen_of book).places)
    (program transcript.ops)) operation))
operation-answered config r book (step.Get own key snapshot) session operation transcript same opened is readable =
    let done = same_Some (own, op.Get key snapshot) (session, operation) is in
    subst (λ (pair : ℕ × Op). IsAnswered config r (step.Get own key snapshot) (answered_by (reply_on
    (copy (serial_map_at config.resolver_splits transcript.read_version (seen_of book).places)
    (program transcript.ops)) pair.1))) done (
      transcript,
      subst (λ (s : ℕ). HasOpened r s transcript) (sym (ap (λ (pair : ℕ × Op). pair.0) done)) opened,
      readable-key (subst (λ (pair : ℕ × Op). reads_readable
          (serial_map_at config.resolver_splits transcript.read_version (seen_of book).places)
          (program transcript.ops) pair.1 ≡ true) (sym done) readable),
      ap (λ (b : List Entry). get
          (copy (serial_map_at config.resolver_splits transcript.read_version (seen_of b).places)
          (program transcript.ops)) key) (sym same),
    )
operation-answered config r book (step.GetRange own range limit is_reverse snapshot) session operation transcript same
    opened is readable =
    let done = same_Some (own, op.Range range limit is_reverse snapshot) (session, operation) is in
    subst (λ (pair : ℕ × Op). IsAnswered config r (step.GetRange own range limit is_reverse snapshot)
    (answered_by (reply_on
    (copy (serial_map_at config.resolver_splits transcript.read_version (seen_of book).places)
    (program transcript.ops)) pair.1))) done (
      transcript,
      subst (λ (s : ℕ). HasOpened r s transcript) (sym (ap (λ (pair : ℕ × Op). pair.0) done)) opened,
      (
        subst (λ (b : List Entry). unreadable_in (program transcript.ops) (scanned_of
            (copy (serial_map_at config.resolver_splits transcript.read_version (seen_of b).places)
            (program transcript.ops)) range limit is_reverse) ≡ false) (sym same)
            (readable-key (subst (λ (pair : ℕ × Op). reads_readable
            (serial_map_at config.resolver_splits transcript.read_version (seen_of book).places)
            (program transcript.ops) pair.1 ≡ true) (sym done) readable)),
        ap (λ (b : List Entry). given_of
            (copy (serial_map_at config.resolver_splits transcript.read_version (seen_of b).places)
            (program transcript.ops)) range limit is_reverse) (sym same),
      ),
    )
operation-answered config r book (step.Write own mutation) session operation transcript same opened is readable =
    subst (λ (pair : ℕ × Op). IsAnswered config r (step.Write own mutation) (answered_by (reply_on
    (copy (serial_map_at config.resolver_splits transcript.read_version (seen_of book).places)
    (program transcript.ops)) pair.1))) (same_Some (own, op.Write mutation) (session, operation) is) refl
operation-answered config r book (step.AddRead own range) session operation transcript same opened is readable =
    subst (λ (pair : ℕ × Op). IsAnswered config r (step.AddRead own range) (answered_by (reply_on
    (copy (serial_map_at config.resolver_splits transcript.read_version (seen_of book).places)
    (program transcript.ops)) pair.1))) (same_Some (own, op.AddRead range) (session, operation) is) refl
operation-answered config r book (step.AddWrite own range) session operation transcript same opened is readable =
    subst (λ (pair : ℕ × Op). IsAnswered config r (step.AddWrite own range) (answered_by (reply_on
    (copy (serial_map_at config.resolver_splits transcript.read_version (seen_of book).places)
    (program transcript.ops)) pair.1))) (same_Some (own, op.AddWrite range) (session, operation) is) refl
operation-answered config r book (step.Ask own proxy) session operation transcript same opened is readable = cc
operation-answered config r book (step.Grant proxy) session operation transcript same opened is readable = cc
operation-answered config r book (step.Submit own proxy) session operation transcript same opened is readable = cc
operation-answered config r book (step.Seal proxy advance) session operation transcript same opened is readable = cc
operation-answered config r book (step.Resolve i resolver) session operation transcript same opened is readable = cc
operation-answered config r book (step.Verdict i resolver) session operation transcript same opened is readable = cc
operation-answered config r book (step.Decide proxy) session operation transcript same opened is readable = cc
operation-answered config r book (step.Push i log) session operation transcript same opened is readable = cc
operation-answered config r book (step.Logged i log) session operation transcript same opened is readable = cc
operation-answered config r book (step.Report proxy) session operation transcript same opened is readable = cc
operation-answered config r book (step.Answer proxy) session operation transcript same opened is readable = cc
operation-answered config r book (step.Pull shard limit) session operation transcript same opened is readable = cc
operation-answered config r book (step.Forget shard version) session operation transcript same opened is readable = cc
operation-answered config r book (step.Pop shard) session operation transcript same opened is readable = cc
operation-answered config r book (step.Move range to) session operation transcript same opened is readable = cc
operation-answered config r book (step.Window window) session operation transcript same opened is readable = cc

-- the clients of a batch are told what became of their transactions
all-told : (m : Machine) (proxy : ℕ) (commit_proxy : CommitProxy) (entry : Entry)
    → slice_get m.commit_proxies proxy ≡ Some commit_proxy → commit_proxy.stage ≡ Reported
    → slice_get m.book commit_proxy.entry ≡ Some entry
    → AnswersTold m (step.Answer proxy) (answered.Answers (replies_from commit_proxy.in_flight
    (outcomes_on m.config.resolver_splits (seen_before m.book commit_proxy.entry) entry))) m
all-told m proxy commit_proxy entry at reported there r has sound tells roles =
    subst (λ (book : List Entry). AreReplies splits book (r.sealed proxy) told later.acknowledged) (sym tells.book_told)
    (subst (λ (b : SealedBatch). AreReplies splits m.book b told later.acknowledged)
    (sym (batch-at r m proxy commit_proxy entry tells at (ap is_idle reported) there))
    (subst (AreReplies splits m.book batch told)
    (sym (tells_steps.told m proxy commit_proxy entry at reported there r sound tells).acknowledged_told)
    (replies-of splits m.book commit_proxy.entry entry commit_proxy.in_flight m.acknowledged there all
    (λ session. in_flight_once m session ((sessions-stand m sound).0 session) proxy commit_proxy at)
    (sound_steps.told m proxy commit_proxy entry at reported there sound).acknowledged)))
  where
    splits : List Point
    splits = m.config.resolver_splits

    told : List (ℕ × Outcome)
    told = replies_from commit_proxy.in_flight (outcomes_on splits (seen_before m.book commit_proxy.entry) entry)

    later : Readings
    later = read r (step.Answer proxy) (answered.Answers told)

    batch : SealedBatch
    batch = record { entry = commit_proxy.entry; version = entry.version; transcripts = commit_proxy.in_flight }

    -- the entry has the transactions of the batch
    all : entry.batch ≡ map commit_request_of commit_proxy.in_flight
    all =
        let flying = (all-at (CommitProxyIsSound m) m.commit_proxies proxy commit_proxy sound.commit_proxies at).2
        (ap is_idle reported) in
        let same : flying.0 ≡ entry = same_Some flying.0 entry (sym flying.1 ∙ there) in
        ap (λ (e : Entry). e.batch) (sym same) ∙ flying.2

answered_steps : HoldsOfSteps AnswersTold
answered_steps = record {
  roles = λ m taken answer resolvers logs shards quiet grew went r has sound tells told.
      role-answered m r has sound tells told taken answer resolvers logs shards went;
  asked = λ m session proxy there at free r has sound tells told. refl;
  granted = λ m proxy there at left r has sound tells told. all-granted m.committed r.reported there
      (sym tells.reported_told);
  operated = λ m taken session transcript operation does opened allowed r has sound tells told.
      operation-answered m.config r m.book taken session operation transcript tells.book_told
      (found-told r.opened m.sessions tells.opened_told session transcript opened) does
      (allowed-readable m transcript operation allowed);
  read_only = λ m session proxy transcript opened empty r has sound tells told. (
    transcript,
    found-told r.opened m.sessions tells.opened_told session transcript opened,
    refl,
    wrote_nothing transcript empty,
  );
  submitted = λ m session proxy commit_proxy transcript at opened writes r has sound tells told. refl;
  sealed = λ m proxy advance commit_proxy at idle few room r has sound tells told.
      let was = tells.proxies_told proxy commit_proxy at in (
        ap (λ (b : List Entry). length b) (sym tells.book_told),
        ap last_version (sym tells.book_told),
        refl,
        sym (ap (λ (waits : List Transcript). length (take place_limit waits)) was.waiting_told),
      );
  went_on = λ m taken answer proxy commit_proxy stage decided verdicts acknowledgements quiet came at busy goes_on
      unreported went r has sound tells told.
      proxy-answered m r has sound tells told taken answer proxy commit_proxy stage decided verdicts acknowledgements
      at went;
  reported_version = λ m proxy commit_proxy entry at logging there whole r has sound tells told.
      let batch = batch-at r m proxy commit_proxy entry tells at (ap is_idle logging) there in
      λ k. answered.Version (max (sym tells.reported_told k) (sym batch k).version);
  moved = λ m range to exists r has sound tells told. refl;
  windowed = λ m width within r has sound tells told. (refl, within.0, within.1);
  told = λ m proxy commit_proxy entry at reported there r has sound tells told.
      all-told m proxy commit_proxy entry at reported there r has sound tells told;
}

pub answered_by_trace : AnsweredByTheTrace
answered_by_trace config steps given taken answer world stands =
    let last = run-last (first_state config) world steps given taken (Ok answer) stands in
    from_mid last.0 last.1 (machine-step last.0 taken (Ok answer) world last.2)
  where
    from_result : (m : Machine) (r : Readings) (result : Result Transition Refusal)
        → IfAccepted (λ transition. AnswersTold m taken transition.answer transition.next) result
        → HasRoles m → Invariant m → TellsMachine r m → TellsRoles r m → Ok answer ≡ answer_of result
        → IsAnswered m.config r taken answer
    from_result m r (Ok transition) holds has sound tells told is =
        let same : transition.answer ≡ answer = cc in
        subst (IsAnswered m.config r taken) same (holds r has sound tells told)
    from_result m r (Err refusal) holds has sound tells told is = cc

    from_mid : (mid : State) → IsRun (first_state config) steps given mid
        → IsMachineStep mid.machine taken (Ok answer) world.machine
        → IsAnswered config (readings_of steps given) taken answer
    from_mid mid ran stepped =
        let m = mid.machine in
        let is = traces_tell config steps given mid ran in
        let tells = subst (TellsMachine (readings_of steps given)) (sym is)
        (trace-tells config steps given mid ran) in
        let told = subst (TellsRoles (readings_of steps given)) (sym is)
        (trace-tells-roles config steps given mid ran) in
        let has = subst HasRoles (sym is)
        (kept-by_trace HasRoles roles_stay (start config) steps given (roles-start config)) in
        subst (λ (c : Config). IsAnswered c (readings_of steps given) taken answer)
        (ap (λ (n : Machine). n.config) is ∙ config-kept config steps given)
        (⊎_elim
        (λ went. from_result m (readings_of steps given) (next m taken) (holds-next AnswersTold answered_steps m taken)
        has (subst Invariant (sym is) (sound-trace config steps given)) tells told went.0)
        (λ refused. let wrong = refused.1 in cc)
        stepped)
