-- A commit proxy whose state goes to another stage, and what comes to it while its batch is in flight.
use Rattle.std.proofs.Common.{◌≡◌, ◌∙◌, refl, sym, ap, subst, ⊎_elim, ℕ, zero, suc, ◌<◌, Bool, true, false, not}
use Rattle.std.proofs.Common.{◌&&◌, ◌==◌, nat_lt, List, [], ◌∷◌, length, map, Option, Some, None, Result, Ok, Err}
use Rattle.std.proofs.Common.{slice_get, slice_set, if◌then◌else◌, arith}
use Rattle.std.proofs.lemmas.Bool.{and_right, cases_eq, eq-eqb, ne_eqb, lt-ltb, true≢false}
use Rattle.std.proofs.lemmas.Option.{same_Some}
use Rattle.fdb_keys.specs.Answers.{AnswersExactly}
use Rattle.fdb_keys.specs.declared.refusal.Refusal.{Refusal}
use Rattle.fdb_keys.specs.declared.refusal.Refusal.TheVariants.{Stale}
use Rattle.fdb_txn.specs.declared.entry.Entry.{Entry}
use Rattle.fdb_txn.specs.declared.txn_id.TxnId.{TxnId}
use Rattle.fdb_txn.specs.book.Book.{seen_before}
use Rattle.fdb_txn.specs.book.Transactions.{Transaction}
use Rattle.fdb_client.specs.declared.program.Transcript.{Transcript}
use Rattle.fdb_client.specs.Programs.{commit_request_of}
use Rattle.fdb_log.specs.declared.message.LogAck.{LogAck}
use Rattle.fdb_proxy.specs.declared.config.Config.{Config}
use Rattle.fdb_proxy.specs.declared.logging.Logging.{Logging as Decided}
use Rattle.fdb_proxy.specs.declared.outcome.Outcome.{Outcome}
use Rattle.fdb_proxy.specs.declared.stage.Stage.{Stage as CoreStage}
use Rattle.fdb_proxy.specs.declared.stage.Stage.TheVariants as stages
use Rattle.fdb_proxy.specs.CommitProxies.{CommitProxy as Core, ProxyWithRoom, waiting_for, logged_fault, with_logged}
use Rattle.fdb_proxy.specs.CommitProxies.{all_logged_fault, done_fault, answers_in, finishing}
use Rattle.fdb_proxy.specs.Flags.{first_unset}
use Rattle.fdb_proxy.specs.Logging as logging
use Rattle.fdb_proxy.specs.Logging.{answers_by, with_acknowledgement}
use Rattle.fdb_proxy.specs.Verdicts.{outcomes_on}
use Rattle.fdb_core.specs.declared.roles.commit_proxy.CommitProxyRole.{CommitProxyRole}
use Rattle.fdb_machine.specs.machine.CommitProxySteps.{awaits, with_received, is_logging, is_reported}
use Rattle.fdb_machine.specs.machine.Machine.{is_set, first_missing}
use Rattle.fdb_machine.specs.machine.Roles.{Logging, Reported, FromLog}
use Rattle.fdb_roles.specs.ProxyStages.{IsCommitProxyAt, IsBatchOf, IsLogging}
use Rattle.fdb_core.specs.refinement.commit_proxy.Ties.{CommitProxyRefines, Known, StageRefines}
use Rattle.fdb_core.specs.refinement.commit_proxy.Ties.{IsDone, stage_of, received_at, acknowledged_at, seen_as}
use Rattle.fdb_roles.proofs.Exports.{given-fault, proxies_hear_logs, stays}
use Rattle.fdb_core.proofs.refinement.commit_proxy.Fronts.{StageTold, stage-told}

-- what a call gave that was answered has what follows from it where there is no fault
pub exactly-map : {T : Type 0} (result : Result T Refusal) (fault : Option Refusal) (P Q : T → Type 0)
    → (fault ≡ None → (given : T) → P given → Q given) → AnswersExactly result fault P → AnswersExactly result fault Q
exactly-map (Ok given) None P Q follows answers = follows refl given answers
exactly-map (Ok given) (Some fault) P Q follows answers = answers
exactly-map (Err why) None P Q follows answers = answers
exactly-map (Err why) (Some fault) P Q follows answers = answers

-- and so by an equal fault
pub exactly-by : {T : Type 0} (result : Result T Refusal) (fault same : Option Refusal) (P Q : T → Type 0)
    → fault ≡ same → (same ≡ None → (given : T) → P given → Q given) → AnswersExactly result fault P
    → AnswersExactly result same Q
exactly-by {T} result fault same P Q is follows answers =
    exactly-map result same P Q follows (subst (λ (f : Option Refusal). AnswersExactly {T = T} result f P) is answers)

-- a test in the one order and in the other
pub same-test : (a b : ℕ) → (a == b) ≡ (b == a)
same-test a b = ⊎_elim
    (λ same. eq-eqb a b same ∙ sym (eq-eqb b a (sym same)))
    (λ differs. ne_eqb a b differs ∙ sym (ne_eqb b a (λ same. differs (sym same))))
    (cases_eq a b)

-- no flag is left unset
all-set : (n : ℕ) (list : List Bool) (i : ℕ) → first_unset n list ≡ None → i < length list → is_set list i ≡ true
all-set n [] i none within = absurd (omega (arith, within))
all-set n (true ∷ list) zero none within = refl
all-set n (true ∷ list) (suc i) none within = all-set (suc n) list i none (omega (arith, within))
all-set n (false ∷ list) i none within = cc

-- the least flag that isn't set is the least that is missing of all
unset-missing : (n : ℕ) (list : List Bool) → first_unset n list ≡ first_missing (λ i. true) n list
unset-missing n [] = refl
unset-missing n (true ∷ list) = unset-missing (suc n) list
unset-missing n (false ∷ list) = refl

pub awaited : (b : Bool) → (if b then None else Some Stale) ≡ None → b ≡ true
awaited true none = refl
awaited false none = cc

module _ (config : Config) (book : List Entry) (known : Known) (role : CommitProxyRole)
    (ok : CommitProxyRefines config book known role) where
  -- at another stage, by a state that is else as it was
  pub staged : (later : ProxyWithRoom) (stage : CoreStage) (reported : Bool)
      → later.proxy ≡ record role.state.proxy { stage = stage }
      → IsCommitProxyAt config ok.front (record role.state.proxy { stage = stage })
      → StageRefines reported role.entry stage
      → CommitProxyRefines config book known (record role { state = later; is_reported = reported })
  staged later stage reported is at refines = record {
    front = ok.front;
    behind = ok.behind;
    whole = ok.whole;
    state = subst (IsCommitProxyAt config ok.front) (sym is) at;
    unlearnt = ok.unlearnt;
    waiting = ap (λ (p : Core). p.waiting) is ∙ ok.waiting;
    in_flight = ap (λ (p : Core). p.batch) is ∙ ok.in_flight;
    reads = ok.reads;
    stage = subst (λ (p : Core). StageRefines reported role.entry p.stage) (sym is) refines;
  }

  -- and so is the machine's
  pub seen-staged : (later : ProxyWithRoom) (stage : CoreStage)
      → later.proxy ≡ record role.state.proxy { stage = stage }
      → seen_as (record role { state = later }) ≡ record (seen_as role) {
        stage = stage_of role.is_reported stage;
        verdicts_received = received_at stage;
        acknowledgements_received = acknowledged_at stage;
      }
  seen-staged later stage is = λ i. record (seen_as role) {
    stage = stage_of role.is_reported (is i).stage;
    verdicts_received = received_at (is i).stage;
    acknowledgements_received = acknowledged_at (is i).stage;
  }

  -- a log's acknowledgement
  module _ (ack : LogAck) (exists : ack.log < config.logs) where
    abbrev AcknowledgementIsAwaited : Bool
    AcknowledgementIsAwaited = awaits (seen_as role) ack.index (FromLog ack.log)

    same-awaited : (reported : Bool) (entry : Entry) (decided : Decided)
        → decided.position.index ≡ role.entry → IsLogging config book role.entry entry decided
        → (reported ≡ true → first_unset 0 decided.acknowledged ≡ None)
        → logging.is_awaited decided ack
        ≡ ((is_logging (if reported then Reported else Logging) && (role.entry == ack.index))
        && not (is_set decided.acknowledged ack.log))
    same-awaited true entry decided number is all_came =
        let count = is.count in
        let set_there = all-set 0 decided.acknowledged ack.log (all_came refl) (omega (arith, exists, count)) in
        and_right ((ack.index == decided.position.index) && nat_lt ack.log (length decided.acknowledged)) _
        (ap not set_there)
    same-awaited false entry decided number is all_came =
        let count = is.count in
        let there : nat_lt ack.log (length decided.acknowledged) ≡ true =
        lt-ltb ack.log (length decided.acknowledged) (omega (arith, exists, count)) in
        let same : (ack.index == decided.position.index) ≡ (role.entry == ack.index) =
        ap (λ (n : ℕ). ack.index == n) number ∙ same-test ack.index role.entry in
        rw (there, same) (by_test (role.entry == ack.index) (not (is_set decided.acknowledged ack.log)))
      where
        by_test : (b s : Bool) → ((b && true) && s) ≡ ((true && b) && s)
        by_test true s = refl
        by_test false s = refl

    fault-acknowledged : logged_fault role.state.proxy ack
        ≡ (if AcknowledgementIsAwaited then None else Some Stale)
    fault-acknowledged = by_stage role.state.proxy.stage refl (stage-told config book known role ok)
      where
        by_stage : (stage : CoreStage) → role.state.proxy.stage ≡ stage
            → StageTold config book role.is_reported role.entry role.state.proxy.batch stage
            → logged_fault role.state.proxy ack ≡ (if AcknowledgementIsAwaited then None else Some Stale)
        by_stage stages.Idle is refines = rw (ok.state.works, is) refl
        by_stage stages.Sealed is refines = absurd refines
        by_stage stages.Entered is refines = absurd refines
        by_stage (stages.Resolving batch) is refines = rw (ok.state.works, is) refl
        by_stage (stages.Logging decided) is refines =
            rw (ok.state.works, is) (ap (λ (b : Bool). if b then None else Some Stale)
            (same-awaited role.is_reported refines.0 decided refines.1.index refines.2 refines.3))

    -- once it came
    after-acknowledged : (later : ProxyWithRoom) → AcknowledgementIsAwaited ≡ true
        → later.proxy ≡ with_logged role.state.proxy ack
        → (seen_as (record role { state = later }) ≡ with_received (seen_as role) (FromLog ack.log))
        × CommitProxyRefines config book known (record role { state = later })
    after-acknowledged later waits after = by_stage role.state.proxy.stage refl (stage-told config book known role ok)
      where
        by_stage : (stage : CoreStage) → role.state.proxy.stage ≡ stage
            → StageTold config book role.is_reported role.entry role.state.proxy.batch stage
            → (seen_as (record role { state = later }) ≡ with_received (seen_as role) (FromLog ack.log))
            × CommitProxyRefines config book known (record role { state = later })
        by_stage stages.Idle is refines = absurd (true≢false (sym (rw is at waits)))
        by_stage stages.Sealed is refines = absurd refines
        by_stage stages.Entered is refines = absurd refines
        by_stage (stages.Resolving batch) is refines = absurd (true≢false (sym (rw is at waits)))
        by_stage (stages.Logging decided) is refines =
            let stage = stages.Logging (with_acknowledgement decided ack) in
            let next : later.proxy ≡ record role.state.proxy { stage = stage } = after ∙ rw is refl in (
              seen-staged later stage next ∙ rw is refl,
              staged later stage role.is_reported next
                  (subst (IsCommitProxyAt config ok.front) (rw is refl)
                  (proxies_hear_logs config ok.front role.state.proxy ack ok.state)) (
                    refines.1.index,
                    λ reported. set-all 0 decided.acknowledged ack.log (refines.3 reported),
                  ),
            )
          where
            set-all : (n : ℕ) (list : List Bool) (i : ℕ) → first_unset n list ≡ None
                → first_unset n (slice_set list i true) ≡ None
            set-all n [] zero none = refl
            set-all n [] (suc i) none = refl
            set-all n (true ∷ list) zero none = none
            set-all n (true ∷ list) (suc i) none = set-all (suc n) list i none
            set-all n (false ∷ list) i none = cc

    pub takes-acknowledgement : {T : Type 0} (result : Result T Refusal) (later : ProxyWithRoom)
        → AnswersExactly result (logged_fault role.state.proxy ack)
        (λ _. later.proxy ≡ with_logged role.state.proxy ack)
        → AnswersExactly result (if AcknowledgementIsAwaited then None else Some Stale)
        (λ _. (seen_as (record role { state = later }) ≡ with_received (seen_as role) (FromLog ack.log))
        × CommitProxyRefines config book known (record role { state = later }))
    takes-acknowledgement {T} result later answers =
        exactly-by result (logged_fault role.state.proxy ack) (if AcknowledgementIsAwaited then None else Some Stale)
        (λ (_ : T). later.proxy ≡ with_logged role.state.proxy ack) _ fault-acknowledged
        (λ none given after. after-acknowledged later (awaited AcknowledgementIsAwaited none) after) answers

  -- whether all logs have acknowledged the batch
  pub checks-logged : {T : Type 0} (result : Result T Refusal) (P : T → Type 0)
      → role.is_reported ≡ false → is_logging (stage_of role.is_reported role.state.proxy.stage) ≡ true
      → AnswersExactly result (all_logged_fault role.state.proxy) P
      → AnswersExactly result (waiting_for
      (first_missing (λ log. true) 0 (acknowledged_at role.state.proxy.stage))) P
  checks-logged {T} result P unreported is_now answers =
      subst (λ (fault : Option Refusal). AnswersExactly {T = T} result fault P) (fault_is role.state.proxy.stage refl)
      answers
    where
      fault_is : (stage : CoreStage) → role.state.proxy.stage ≡ stage
          → all_logged_fault role.state.proxy ≡ waiting_for
          (first_missing (λ log. true) 0 (acknowledged_at role.state.proxy.stage))
      fault_is stages.Idle is = absurd (true≢false (sym (rw is at is_now)))
      fault_is stages.Sealed is = absurd (true≢false (sym (rw is at is_now)))
      fault_is stages.Entered is = absurd (true≢false (sym (rw is at is_now)))
      fault_is (stages.Resolving batch) is = absurd (true≢false (sym (rw is at is_now)))
      fault_is (stages.Logging decided) is =
          rw (ok.state.works, is) (ap waiting_for
          (unset-missing 0 decided.acknowledged))

-- The batch of a proxy that was reported is done.
module _ (config : Config) (book : List Entry) (known : Known) (role : CommitProxyRole)
    (ok : CommitProxyRefines config book known role) (entry : Entry)
    (reported : is_reported (stage_of role.is_reported role.state.proxy.stage) ≡ true)
    (there : slice_get book role.entry ≡ Some entry) where
  -- so it is decided
  decided-told : (decided : Decided) × (role.state.proxy.stage ≡ stages.Logging decided)
      × IsBatchOf book role.entry role.state.proxy.batch decided.position entry
      × IsLogging config book role.entry entry decided
  decided-told = by_stage role.state.proxy.stage refl (stage-told config book known role ok)
    where
      by_stage : (stage : CoreStage) → role.state.proxy.stage ≡ stage
          → StageTold config book role.is_reported role.entry role.state.proxy.batch stage
          → (decided : Decided) × (role.state.proxy.stage ≡ stages.Logging decided)
          × IsBatchOf book role.entry role.state.proxy.batch decided.position entry
          × IsLogging config book role.entry entry decided
      by_stage stages.Idle is told = absurd (true≢false (sym (rw is at reported)))
      by_stage stages.Sealed is told = absurd told
      by_stage stages.Entered is told = absurd told
      by_stage (stages.Resolving batch) is told = absurd (true≢false (sym (rw is at reported)))
      by_stage (stages.Logging decided) is told =
          let same : told.0 ≡ entry = same_Some told.0 entry (sym told.1.there ∙ there) in (
            decided,
            is,
            subst (IsBatchOf book role.entry role.state.proxy.batch decided.position) same told.1,
            subst (λ (e : Entry). IsLogging config book role.entry e decided) same told.2,
          )

  pub finishes : (later : ProxyWithRoom) (transcripts : List Transcript) (given : List (TxnId × Outcome))
      (left : List Transcript)
      → AnswersExactly (Ok given) (done_fault role.state.proxy)
      (λ answers. (answers ≡ answers_in role.state.proxy.stage) × (later.proxy ≡ finishing role.state.proxy))
      → transcripts ≡ role.in_flight → left ≡ []
      → IsDone config book known entry role transcripts given (record role {
        state = later;
        in_flight = left;
        is_reported = false;
      })
  finishes later transcripts given left answers same none =
      let its = decided-told in
      let is = (given-fault (done_fault role.state.proxy) given (λ (all : List (TxnId × Outcome)).
      (all ≡ answers_in role.state.proxy.stage) × (later.proxy ≡ finishing role.state.proxy)) answers).1 in
      let batch : entry.batch ≡ map commit_request_of role.in_flight = sym its.2.places ∙ ok.in_flight in
      record {
        transcripts_are = same;
        answers_are = is.0 ∙ ap answers_in its.1 ∙ its.3.answers
            ∙ ap (λ (ts : List Transaction). answers_by ts
            (outcomes_on config.resolver_splits (seen_before book role.entry) entry)) batch;
        batch = batch;
        machine = rw its.1 (λ i. record {
          waiting = role.waiting;
          in_flight = none i;
          stage = stage_of false (is.1 i).stage;
          entry = role.entry;
          verdicts_received = received_at (is.1 i).stage;
          acknowledgements_received = acknowledged_at (is.1 i).stage;
        });
        refines = record {
          front = ok.front;
          behind = ok.behind;
          whole = ok.whole;
          state = subst (IsCommitProxyAt config ok.front) (sym is.1)
              (stays config ok.front role.state.proxy ok.state role.state.proxy.waiting [] stages.Idle refl);
          unlearnt = ok.unlearnt;
          waiting = ap (λ (p : Core). p.waiting) is.1 ∙ ok.waiting;
          in_flight = ap (λ (p : Core). p.batch) is.1 ∙ sym (ap (map commit_request_of) none);
          reads = ok.reads;
          stage = subst (λ (p : Core). StageRefines false role.entry p.stage) (sym is.1) refl;
        };
      }
