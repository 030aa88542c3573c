-- Commit proxies beside their fronts stay where these leave them, and tell of the last entry.
use Rattle.std.proofs.Common.{◌≡◌, ◌∙◌, refl, sym, ap, ap₂, subst, ℕ, suc, ◌<◌, Bool, true, false, List, [], ◌∷◌, ◌++◌}
use Rattle.std.proofs.Common.{take, length, slice_get, Option, Some, None, Result, Ok, Err, OnErr, arith, get_or}
use Rattle.std.proofs.Common.{append-nil, eq-eqb}
use Rattle.std.specs.Prelude.{if◌then◌else◌, All, IfOk}
use Rattle.std.proofs.lemmas.Bool.{true≢false}
use Rattle.std.proofs.lemmas.List.{take_all, length-append}
use Rattle.std.proofs.lemmas.List.Elements.{All-from_get_or}
use Rattle.std.proofs.lemmas.Option.{same_Some, slice_get_within, slice_get-get_or}
use Rattle.fdb_keys.specs.Answers.{Answers, AnswersExactly}
use Rattle.fdb_keys.specs.Ranges.{Range}
use Rattle.fdb_keys.specs.declared.refusal.Refusal.{Refusal}
use Rattle.fdb_keys.specs.declared.refusal.Refusal.TheVariants.{Failed}
use Rattle.fdb_txn.specs.declared.entry.Entry.{Entry}
use Rattle.fdb_txn.specs.declared.txn_id.TxnId.{TxnId}
use Rattle.fdb_txn.specs.book.Book.{Place, Seen, head_of, seen_of, seen_before}
use Rattle.fdb_txn.specs.book.History.{AreEntries}
use Rattle.fdb_txn.specs.book.Places.{place_of, place_at}
use Rattle.fdb_txn.specs.book.Transactions.{Transaction}
use Rattle.fdb_txn.specs.Limits.{place_limit}
use Rattle.fdb_book.specs.Fronts.{IsPrefix}
use Rattle.fdb_book.proofs.Exports.{last-at}
use Rattle.fdb_resolver.specs.declared.part.Part.{Part}
use Rattle.fdb_resolver.specs.declared.verdict.Verdicts.{Verdicts}
use Rattle.fdb_log.specs.declared.message.LogAck.{LogAck}
use Rattle.fdb_log.specs.declared.message.LogMsg.{LogMsg}
use Rattle.fdb_storage.specs.LogMessages.{log_message}
use Rattle.fdb_proxy.specs.declared.config.Config.{Config}
use Rattle.fdb_proxy.specs.declared.decision.Decision.{Decision}
use Rattle.fdb_proxy.specs.declared.outcome.Outcome.{Outcome}
use Rattle.fdb_proxy.specs.declared.stage.Stage.{Stage}
use Rattle.fdb_proxy.specs.declared.stage.Stage.TheVariants as stage
use Rattle.fdb_proxy.specs.CommitProxies.{CommitProxy, ProxyWithRoom, IsNewProxy, is_sealed, seal_fault, fault_of}
use Rattle.fdb_proxy.specs.CommitProxies.{sealing, unsealing, logged_fault, with_logged, parts_fault, parts_in}
use Rattle.fdb_proxy.specs.CommitProxies.{verdict_fault, with_verdict, decide_fault, deciding, decision_in}
use Rattle.fdb_proxy.specs.CommitProxies.{messages_fault, messages_of, done_fault, answers_in, finishing}
use Rattle.fdb_proxy.specs.Logging.{answers_by}
use Rattle.fdb_proxy.specs.Parting.{IsPartOf}
use Rattle.fdb_proxy.specs.Verdicts.{moves_through, verdicts_on, outcomes_on, conflict_at}
use Rattle.fdb_roles.specs.Outcomes.{IsByRule}
use Rattle.fdb_roles.specs.ProxyLaws.{IsLastEntry}
use Rattle.fdb_roles.specs.ProxyStages.{AreConflictsOn, AreFindsOn, IsCommitProxyAt, IsStageAt, IsSaid, position_in}
use Rattle.fdb_roles.proofs.Exports.{place-there, answers-fault, given-fault, requests_come_and_go}
use Rattle.fdb_roles.proofs.Exports.{new_proxies_have_no_entry, proxies_hear_logs, proxies_hear_verdicts}
use Rattle.fdb_roles.proofs.Exports.{proxies_decide_by_the_rule, messages_are_of_the_entry, proxies_answer_by_the_rule}
use Rattle.fdb_roles.proofs.Exports.{answers_are_by_the_rule, take-next, seen-before-last, made-at}
use Rattle.fdb_sections.specs.CommitProxiesAtFronts as fronts
use Rattle.fdb_sections.specs.CommitProxiesAtFronts.{AreSetsOf, CommitProxyAtFront, IsThere, AreLastParts}
use Rattle.fdb_sections.specs.CommitProxiesAtFronts.{AreLastMessages, AreOutcomes}
use Rattle.fdb_sections.specs.Messages.{IsLastPart, IsLastMessage, VerdictsAtFront, AreLastVerdicts}

-- one that works is where its front leaves it, and the sets are those of a decided batch
abbrev pub Holds : Config → List Entry → List (List Range) → CommitProxy → Type 0
Holds config front conflicts proxy =
    IsThere config front proxy × AreSetsOf config front proxy.stage conflicts

-- what changes nothing leaves it there
pub stays : (config : Config) (front : List Entry) (conflicts : List (List Range)) (old new : CommitProxy) → new ≡ old
    → Holds config front conflicts old → Holds config front conflicts new
stays config front conflicts old new same holds = subst (Holds config front conflicts) (sym same) holds

pub seals : (config : Config) (front : List Entry) (conflicts : List (List Range)) (old new : CommitProxy)
    → new ≡ sealing old → Holds config front conflicts old → Holds config front conflicts new
seals config front conflicts old new same holds =
    subst (Holds config front conflicts) (sym same)
    ((λ works. (requests_come_and_go config front old (holds.0 works)).1), tt)

pub drops : (config : Config) (front : List Entry) (conflicts : List (List Range)) (old new : CommitProxy)
    → new ≡ record old { waiting = [] } → Holds config front conflicts old → Holds config front conflicts new
drops config front conflicts old new same holds =
    subst (Holds config front conflicts) (sym same)
    ((λ works. (requests_come_and_go config front old (holds.0 works)).3), holds.1)

-- a new one has no entry
pub begins : (config other : Config) (index : ℕ) (front : List Entry) (conflicts : List (List Range))
    (proxy : CommitProxy) → front ≡ [] → other ≡ config → IsNewProxy index other proxy
    → Holds config front conflicts proxy
begins config other index front conflicts proxy none same fresh = (
  λ _. subst (λ (known : Config). IsCommitProxyAt known front proxy) same
      (subst (λ (shown : List Entry). IsCommitProxyAt other shown proxy) (sym none)
      (new_proxies_have_no_entry other index proxy fresh)),
  subst (λ (it : CommitProxy). AreSetsOf config front it.stage conflicts) (sym fresh.rest) tt,
)

-- a batch that is sealed, or not
pub seals-or-stays : (config : Config) (front : List Entry) (conflicts : List (List Range)) (old new : ProxyWithRoom)
    → (result : Result (List Transaction) Refusal)
    → Answers result (seal_fault old.proxy)
    (λ batch. (batch ≡ take place_limit old.proxy.waiting) × (new.proxy ≡ sealing old.proxy))
    → OnErr result (new.proxy ≡ old.proxy) → Holds config front conflicts old.proxy
    → Holds config front conflicts new.proxy
seals-or-stays config front conflicts old new (Ok batch) answers refused holds =
    seals config front conflicts old.proxy new.proxy (answers-fault (seal_fault old.proxy) batch _ answers).1.1 holds
seals-or-stays config front conflicts old new (Err why) answers refused holds =
    stays config front conflicts old.proxy new.proxy refused holds

-- the sets stay those of the batch while logs take it
sets-logged : (config : Config) (front : List Entry) (conflicts : List (List Range)) (proxy : CommitProxy)
    (ack : LogAck) → AreSetsOf config front proxy.stage conflicts
    → AreSetsOf config front (with_logged proxy ack).stage conflicts
sets-logged config front conflicts proxy ack sets = by_stage proxy.stage refl sets
  where
    by_stage : (stage : Stage) → proxy.stage ≡ stage → AreSetsOf config front stage conflicts
        → AreSetsOf config front (with_logged proxy ack).stage conflicts
    by_stage stage.Idle is here = rw is tt
    by_stage stage.Sealed is here = rw is tt
    by_stage stage.Entered is here = rw is tt
    by_stage (stage.Resolving batch) is here = rw is tt
    by_stage (stage.Logging decided) is here = rw is here

-- a log's acknowledgement that is taken, or not
pub logged-or-stays : (config : Config) (front : List Entry) (conflicts : List (List Range)) (old new : ProxyWithRoom)
    (ack : LogAck)
    → {T : Type 0} → (result : Result T Refusal)
    → AnswersExactly result (logged_fault old.proxy ack) (λ _. new.proxy ≡ with_logged old.proxy ack)
    → OnErr result (new ≡ old) → Holds config front conflicts old.proxy → Holds config front conflicts new.proxy
logged-or-stays config front conflicts old new ack (Ok done) answers refused holds =
    subst (Holds config front conflicts) (sym (given-fault (logged_fault old.proxy ack) done _ answers).1) (
      (λ works. proxies_hear_logs config front old.proxy ack (holds.0 works)),
      sets-logged config front conflicts old.proxy ack holds.1,
    )
logged-or-stays config front conflicts old new ack (Err why) answers refused holds =
    subst (λ (state : ProxyWithRoom). Holds config front conflicts state.proxy) (sym refused) holds

pub unseals : (config : Config) (front : List Entry) (conflicts : List (List Range)) (old new : CommitProxy)
    → new ≡ unsealing old → Holds config front conflicts old → Holds config front conflicts new
unseals config front conflicts old new same holds =
    subst (Holds config front conflicts) (sym same) (
      (λ works. (requests_come_and_go config front old
          (holds.0 (sym (keeps (is_sealed old.stage) refl) ∙ works))).2),
      sets (is_sealed old.stage) refl,
    )
  where
    keeps : (test : Bool) → is_sealed old.stage ≡ test → (unsealing old).is_failed ≡ old.is_failed
    keeps true is = rw is refl
    keeps false is = rw is refl

    sets : (test : Bool) → is_sealed old.stage ≡ test → AreSetsOf config front (unsealing old).stage conflicts
    sets true is = rw is tt
    sets false is = rw is holds.1

-- of one that fails nothing is left to say, but the sets are as they were
pub fails : (config : Config) (front : List Entry) (conflicts : List (List Range)) (old new : CommitProxy)
    → new ≡ record old { is_failed = true } → Holds config front conflicts old → Holds config front conflicts new
fails config front conflicts old new same holds =
    subst (Holds config front conflicts) (sym same) ((λ works. absurd (true≢false works)), holds.1)

-- why a proxy that isn't refused works
works-of : (proxy : CommitProxy) (fault : Option Refusal) → fault_of proxy fault ≡ None → proxy.is_failed ≡ false
works-of proxy fault none = by_test proxy.is_failed refl none
  where
    by_test : (failed : Bool) → proxy.is_failed ≡ failed → (if failed then Some Failed else fault) ≡ None
        → proxy.is_failed ≡ false
    by_test true is clear = cc
    by_test false is clear = is

-- what holds of whatever stands in a list holds of each item
all-items : {X : Type 0} (P : X → Type 0) (xs : List X) → ((k : ℕ) (x : X) → slice_get xs k ≡ Some x → P x) → All P xs
all-items {X} P xs each k d within =
    All-from_get_or P xs d (λ i inside. each i (get_or xs i d) (slice_get-get_or xs i d inside)) k d within

-- a front and its last entry
module _ (front : List Entry) (i : ℕ) (entry : Entry) (last : IsLastEntry front i entry) where
  pub front-is : front ≡ take i front ++ entry ∷ []
  front-is = sym (take_all (suc i) front (let count = last.count in omega (arith, count)))
      ∙ take-next front i entry last.there

  pub before-count : length (take i front) ≡ i
  before-count =
      let both = ap length front-is ∙ length-append (take i front) (entry ∷ []) in
      let count = last.count in omega (arith, both, count)

-- a proxy at its front, with the batch of the last entry
module _ (config : Config) (front : List Entry) (i : ℕ) (entry : Entry) (last : IsLastEntry front i entry) where
  sent-part : (k : ℕ) (part : Part)
      → IsPartOf config.resolver_splits (moves_through (seen_before front i) entry) (position_in i entry) entry.batch k
      part
      → IsLastPart config.resolver_splits (record { front = front; part = part })
  sent-part k part its = record {
    before = take i front;
    entry = entry;
    front_is = front-is front i entry last;
    part_is = subst (λ (n : ℕ). IsPartOf config.resolver_splits (moves_through (seen_before front i) entry)
        (position_in n entry) entry.batch part.resolver part)
        (sym (before-count front i entry last))
        (subst (λ (r : ℕ). IsPartOf config.resolver_splits (moves_through (seen_before front i) entry)
        (position_in i entry) entry.batch r part) (sym its.resolver) its);
  }

  sent-message : (k : ℕ) (message : LogMsg)
      → message ≡ log_message config.resolver_splits config.shard_splits config.logs k i (seen_before front i) entry
      → IsLastMessage config (record { front = front; message = message })
  sent-message k message is = record {
    before = take i front;
    entry = entry;
    front_is = front-is front i entry last;
    message_is = is ∙ ap₂ (λ (log n : ℕ).
        log_message config.resolver_splits config.shard_splits config.logs log n (seen_before front i) entry)
        (sym (ap (λ (m : LogMsg). m.log) is)) (sym (before-count front i entry last));
  }

  answered : (answers : List (TxnId × Outcome)) (conflicts : List (List Range))
      → answers ≡ answers_by entry.batch (outcomes_on config.resolver_splits (seen_before front i) entry)
      → AreConflictsOn config.resolver_splits (seen_before front i) entry conflicts
      → AreOutcomes config front conflicts answers
  answered answers conflicts is are p answer there =
      let by_rule = answers_are_by_the_rule config.resolver_splits front i entry last.there in
      let within : p < length entry.batch = subst (λ (n : ℕ). p < n) (ap length is ∙ by_rule.each_once)
      (slice_get_within answers p answer there) in
      let place = place-there (head_of (seen_before front i) entry) 0 entry.batch (seen_before front i).places p within
      in
      let at : place_at front i p ≡ Some place.0 = ap (place_of (seen_before front i) p) last.there ∙ place.1 in
      let told = by_rule.by_rule p place.0 at in
      let same : (place.0.0.transaction.id, told.0) ≡ answer = same_Some _ answer
      (sym told.1 ∙ ap (λ (all : List (TxnId × Outcome)). slice_get all p) (sym is) ∙ there) in
      record {
        last = i;
        count = last.count;
        there = place.0;
        there_is = at;
        by_rule = subst (IsByRule config.resolver_splits place.0 p)
            (ap (λ (of : TxnId × Outcome). of.1) same) told.2;
        conflict = λ x.
            are p x ∙ ap (λ (found : Option (Place × List Place)). conflict_at config.resolver_splits found x) place.1;
      }

-- a batch that waits for verdicts, or is decided, is that of the last entry
module _ (config : Config) (front : List Entry) (proxy : CommitProxy) (at : IsCommitProxyAt config front proxy) where
  abbrev pub Entered : Type 0
  Entered = (i : ℕ) × (entry : Entry) × IsLastEntry front i entry

  pub asked-last : decide_fault proxy ≡ None → Entered
  asked-last none = by_stage proxy.stage refl at.stage
    where
      by_stage : (stage : Stage) → proxy.stage ≡ stage → IsStageAt config front proxy.batch stage → Entered
      by_stage stage.Idle is here = let wrong = rw (at.works, is) at none in cc
      by_stage stage.Sealed is here = let wrong = rw (at.works, is) at none in cc
      by_stage stage.Entered is here = absurd here
      by_stage (stage.Resolving batch) is here =
          (here.0, here.1, record { count = here.2; there = here.3.there })
      by_stage (stage.Logging decided) is here = let wrong = rw (at.works, is) at none in cc

  pub decided-last : messages_fault proxy ≡ None → Entered
  decided-last none = by_stage proxy.stage refl at.stage
    where
      by_stage : (stage : Stage) → proxy.stage ≡ stage → IsStageAt config front proxy.batch stage → Entered
      by_stage stage.Idle is here = let wrong = rw (at.works, is) at none in cc
      by_stage stage.Sealed is here = let wrong = rw (at.works, is) at none in cc
      by_stage stage.Entered is here = absurd here
      by_stage (stage.Resolving batch) is here = let wrong = rw (at.works, is) at none in cc
      by_stage (stage.Logging decided) is here =
          (here.0, here.1, record { count = here.2; there = here.3.there })

  pub done-last : done_fault proxy ≡ None → Entered
  done-last none = by_stage proxy.stage refl at.stage
    where
      by_stage : (stage : Stage) → proxy.stage ≡ stage → IsStageAt config front proxy.batch stage → Entered
      by_stage stage.Idle is here = let wrong = rw (at.works, is) at none in cc
      by_stage stage.Sealed is here = let wrong = rw (at.works, is) at none in cc
      by_stage stage.Entered is here = absurd here
      by_stage (stage.Resolving batch) is here = let wrong = rw (at.works, is) at none in cc
      by_stage (stage.Logging decided) is here =
          (here.0, here.1, record { count = here.2; there = here.3.there })

  pub sets-of-done : (conflicts : List (List Range)) → AreSetsOf config front proxy.stage conflicts
      → done_fault proxy ≡ None → (i : ℕ) (entry : Entry) → IsLastEntry front i entry
      → AreConflictsOn config.resolver_splits (seen_before front i) entry conflicts
  sets-of-done conflicts sets none = by_stage proxy.stage refl sets
    where
      by_stage : (stage : Stage) → proxy.stage ≡ stage → AreSetsOf config front stage conflicts
          → (i : ℕ) (entry : Entry) → IsLastEntry front i entry
          → AreConflictsOn config.resolver_splits (seen_before front i) entry conflicts
      by_stage stage.Idle is here = let wrong = rw (at.works, is) at none in absurd cc
      by_stage stage.Sealed is here = let wrong = rw (at.works, is) at none in absurd cc
      by_stage stage.Entered is here = let wrong = rw (at.works, is) at none in absurd cc
      by_stage (stage.Resolving batch) is here = let wrong = rw (at.works, is) at none in absurd cc
      by_stage (stage.Logging decided) is here = here

  parts-there : parts_fault proxy ≡ None → AreLastParts config front (parts_in proxy.stage)
  parts-there none = by_stage proxy.stage refl at.stage
    where
      by_stage : (stage : Stage) → proxy.stage ≡ stage → IsStageAt config front proxy.batch stage
          → AreLastParts config front (parts_in proxy.stage)
      by_stage stage.Idle is here = let wrong = rw (at.works, is) at none in cc
      by_stage stage.Sealed is here = let wrong = rw (at.works, is) at none in cc
      by_stage stage.Entered is here = absurd here
      by_stage (stage.Resolving batch) is here =
          subst (λ (at_stage : Stage). AreLastParts config front (parts_in at_stage)) (sym is)
          (all-items (λ (part : Part). IsLastPart config.resolver_splits (record { front = front; part = part }))
          batch.parts (λ k part there. sent-part config front here.0 here.1
          (record { count = here.2; there = here.3.there }) k part (here.4.parts.each k part there)))
      by_stage (stage.Logging decided) is here = let wrong = rw (at.works, is) at none in cc

-- the parts of one that is there
pub sends-parts : (config : Config) (front : List Entry) (proxy : CommitProxy) (result : Result (List Part) Refusal)
    → IsThere config front proxy
    → Answers result (parts_fault proxy) (λ parts. parts ≡ parts_in proxy.stage)
    → IfOk result (AreLastParts config front)
sends-parts config front proxy (Err why) there answers = tt
sends-parts config front proxy (Ok parts) there answers =
    let given = answers-fault (parts_fault proxy) parts _ answers in
    subst (AreLastParts config front) (sym given.1)
    (parts-there config front proxy (there (works-of proxy _ given.0)) given.0)

-- verdicts that come with the own front are taken
pub takes-verdicts : (config : Config) (own : List Entry) (proxy : CommitProxy) (sent : VerdictsAtFront)
    → IsThere config own proxy → AreLastVerdicts config.resolver_splits sent → sent.front ≡ own
    → verdict_fault proxy sent.verdicts ≡ None → IsThere config own (with_verdict proxy sent.verdicts)
takes-verdicts config own proxy sent there last same none = λ _.
    proxies_hear_verdicts config own last.entry proxy sent.verdicts (there (works-of proxy _ none)) said none
  where
    whole : last.before ++ last.entry ∷ [] ≡ own
    whole = sym last.front_is ∙ same

    seen-is : seen_of last.before ≡ seen_before own sent.verdicts.index
    seen-is =
        sym (seen-before-last last.before last.entry)
        ∙ ap₂ (λ (book : List Entry) (n : ℕ). seen_before book n) whole (sym last.index)

    said : IsSaid config.resolver_splits own sent.verdicts last.entry
    said = record {
      there = ap₂ (λ (book : List Entry) (n : ℕ). slice_get book n) (sym whole) last.index
          ∙ last-at last.before last.entry;
      exists = last.resolver;
      answers = last.answers
          ∙ ap (λ (seen : Seen). verdicts_on config.resolver_splits sent.verdicts.resolver seen last.entry)
          seen-is;
      found = subst (λ (seen : Seen). AreFindsOn config.resolver_splits sent.verdicts.resolver seen last.entry
          sent.verdicts.conflicts) seen-is last.found;
    }

-- as long as the batch isn't decided, nothing is said of the sets
sets-heard : (config : Config) (front : List Entry) (conflicts : List (List Range)) (proxy : CommitProxy)
    (verdicts : Verdicts) → AreSetsOf config front proxy.stage conflicts
    → AreSetsOf config front (with_verdict proxy verdicts).stage conflicts
sets-heard config front conflicts proxy verdicts sets = by_stage proxy.stage refl sets
  where
    by_stage : (stage : Stage) → proxy.stage ≡ stage → AreSetsOf config front stage conflicts
        → AreSetsOf config front (with_verdict proxy verdicts).stage conflicts
    by_stage stage.Idle is here = rw is tt
    by_stage stage.Sealed is here = rw is tt
    by_stage stage.Entered is here = rw is tt
    by_stage (stage.Resolving batch) is here = rw is tt
    by_stage (stage.Logging decided) is here = rw is here

-- fronts of one book that are equally long are the same
pub same-length : (own theirs : List Entry) → length theirs ≡ length own → IsPrefix own theirs → theirs ≡ own
same-length own theirs count prefix = by_rest prefix.0 prefix.1
  where
    by_rest : (rest : List Entry) → theirs ≡ own ++ rest → theirs ≡ own
    by_rest [] is = is ∙ append-nil own
    by_rest (entry ∷ rest) is = absurd (omega (arith, count, ap length is, length-append own (entry ∷ rest)))

-- verdicts that are taken, or not
pub takes-verdicts-or-stays : {T : Type 0} (config : Config) (own : List Entry) (conflicts : List (List Range))
    (old new : ProxyWithRoom) (sent : VerdictsAtFront)
    → (result : Result T Refusal) → Holds config own conflicts old.proxy
    → AreLastVerdicts config.resolver_splits sent → sent.front ≡ own
    → AnswersExactly result (verdict_fault old.proxy sent.verdicts)
    (λ _. new.proxy ≡ with_verdict old.proxy sent.verdicts)
    → OnErr result (new ≡ old) → Holds config own conflicts new.proxy
takes-verdicts-or-stays config own conflicts old new sent (Ok done) holds last same answers refused =
    let given = given-fault (verdict_fault old.proxy sent.verdicts) done _ answers in
    subst (Holds config own conflicts) (sym given.1) (
      takes-verdicts config own old.proxy sent holds.0 last same given.0,
      sets-heard config own conflicts old.proxy sent.verdicts holds.1,
    )
takes-verdicts-or-stays config own conflicts old new sent (Err why) holds last same answers refused =
    subst (λ (state : ProxyWithRoom). Holds config own conflicts state.proxy) (sym refused) holds

-- The proxy and the verdicts before the call, as they are within and as who calls sees them: those of a front as long
-- as the own one are answered as the state does.
pub verdict-answers : {T : Type 0} (old now : CommitProxyAtFront) (sent there : VerdictsAtFront) (new : CommitProxy)
    → (result : Result T Refusal) → old ≡ now → sent ≡ there → length sent.front ≡ length old.front
    → AnswersExactly result (verdict_fault old.state.proxy sent.verdicts)
    (λ _. new ≡ with_verdict old.state.proxy sent.verdicts)
    → AnswersExactly result (fronts.verdict_fault now.front now.state.proxy there)
    (λ _. new ≡ with_verdict now.state.proxy there.verdicts)
verdict-answers old now sent there new result same is count answers =
    subst (λ (at : CommitProxyAtFront). AnswersExactly result (fronts.verdict_fault at.front at.state.proxy there)
    (λ _. new ≡ with_verdict at.state.proxy there.verdicts)) same
    (subst (λ (told : VerdictsAtFront). AnswersExactly result (fronts.verdict_fault old.front old.state.proxy told)
    (λ _. new ≡ with_verdict old.state.proxy told.verdicts)) is
    (rw (eq-eqb (length sent.front) (length old.front) count) answers))

-- once a batch is decided, its sets are those of the last entry's places
sets-decided : (config : Config) (front : List Entry) (conflicts : List (List Range)) (proxy : CommitProxy)
    → ((i : ℕ) (entry : Entry) → IsLastEntry front i entry
    → AreConflictsOn config.resolver_splits (seen_before front i) entry conflicts)
    → AreSetsOf config front (deciding proxy).stage conflicts
sets-decided config front conflicts proxy are = by_stage proxy.stage refl
  where
    by_stage : (stage : Stage) → proxy.stage ≡ stage → AreSetsOf config front (deciding proxy).stage conflicts
    by_stage stage.Idle is = rw is tt
    by_stage stage.Sealed is = rw is tt
    by_stage stage.Entered is = rw is tt
    by_stage (stage.Resolving batch) is = rw is are
    by_stage (stage.Logging decided) is = rw is are

-- what resolvers said decides
pub decides : (config : Config) (front : List Entry) (old new : ProxyWithRoom) (decision : Decision)
    → IsThere config front old.proxy → AreEntries (suc (length config.resolver_splits)) 0 front
    → Answers (Ok decision) (decide_fault old.proxy)
    (λ given. (given ≡ decision_in old.proxy) × (new.proxy ≡ deciding old.proxy))
    → Holds config front decision.conflicts new.proxy
decides config front old new decision there entries answers =
    subst (Holds config front decision.conflicts) (sym given.1.1) (
      (λ _. (proxies_decide_by_the_rule config front last.0 last.1 old.proxy at entries last.2 given.0).2),
      sets-decided config front decision.conflicts old.proxy (λ i entry its.
          subst (AreConflictsOn config.resolver_splits (seen_before front i) entry)
          (sym (ap (λ (of : Decision). of.conflicts) given.1.0))
          (proxies_decide_by_the_rule config front i entry old.proxy at entries its given.0).3),
    )
  where
    given : (decide_fault old.proxy ≡ None)
        × ((decision ≡ decision_in old.proxy) × (new.proxy ≡ deciding old.proxy))
    given = answers-fault (decide_fault old.proxy) decision _ answers

    at : IsCommitProxyAt config front old.proxy
    at = there (works-of old.proxy _ given.0)

    last : Entered config front old.proxy at
    last = asked-last config front old.proxy at given.0

-- the messages of one that is there
pub sends-messages : (config : Config) (front : List Entry) (proxy : CommitProxy)
    → (result : Result (List LogMsg) Refusal) → IsThere config front proxy
    → Answers result (messages_fault proxy) (λ messages. messages ≡ messages_of proxy)
    → IfOk result (AreLastMessages config front)
sends-messages config front proxy (Err why) there answers = tt
sends-messages config front proxy (Ok messages) there answers =
    let given = answers-fault (messages_fault proxy) messages _ answers in
    let at = there (works-of proxy _ given.0) in
    let last = decided-last config front proxy at given.0 in
    let all = given.1 ∙ messages_are_of_the_entry config front last.0 last.1 proxy at last.2 given.0 in
    all-items (λ (message : LogMsg). IsLastMessage config (record { front = front; message = message })) messages
    (λ k message found. sent-message config front last.0 last.1 last.2 k message
    (made-at (λ (log : ℕ). log_message config.resolver_splits config.shard_splits config.logs log last.0
    (seen_before front last.0) last.1) config.logs k message
    (ap (λ (them : List LogMsg). slice_get them k) (sym all) ∙ found)))

-- a batch that is done, or not
pub finishes : (config : Config) (front : List Entry) (conflicts : List (List Range)) (old new : CommitProxy)
    → (result : Result (List (TxnId × Outcome)) Refusal) → Holds config front conflicts old
    → AnswersExactly result (done_fault old)
    (λ answers. (answers ≡ answers_in old.stage) × (new ≡ finishing old))
    → OnErr result (new ≡ old)
    → IfOk result (AreOutcomes config front conflicts) × Holds config front conflicts new
finishes config front conflicts old new (Ok answers) holds answered-so refused =
    let given = given-fault (done_fault old) answers _ answered-so in
    let at = holds.0 (works-of old _ given.0) in
    let last = done-last config front old at given.0 in
    let law = proxies_answer_by_the_rule config front last.0 last.1 old at last.2 given.0 in (
      answered config front last.0 last.1 last.2 answers conflicts (given.1.0 ∙ law.0)
          (sets-of-done config front old at conflicts holds.1 given.0 last.0 last.1 last.2),
      subst (Holds config front conflicts) (sym given.1.1) ((λ _. law.1), tt),
    )
finishes config front conflicts old new (Err why) holds answered-so refused =
    (tt, subst (Holds config front conflicts) (sym refused) holds)
