-- A commit proxy to which a resolver's verdicts come, and what it decides by those that came.
use Rattle.std.proofs.Common.{◌≡◌, ◌∙◌, refl, sym, ap, ap₂, subst, ⊎_elim, ℕ, zero, suc, ◌+◌, ◌<◌, Bool, true, false}
use Rattle.std.proofs.Common.{not, ◌&&◌, ◌==◌, List, [], ◌∷◌, length, map, replicate, Option, Some, None, Result}
use Rattle.std.proofs.Common.{slice_get, if◌then◌else◌, arith}
use Rattle.std.proofs.lemmas.Bool.{and_parts, and_from, cases_eq, eq-eqb, ne_eqb, eqb-true, true≢false}
use Rattle.std.proofs.lemmas.Option.{same_Some}
use Rattle.std.specs.Option.{is_some}
use Rattle.fdb_keys.specs.Answers.{Answers, AnswersExactly}
use Rattle.fdb_keys.specs.Points.{Point}
use Rattle.fdb_keys.specs.Ranges.{in_set}
use Rattle.fdb_keys.specs.declared.refusal.Refusal.{Refusal}
use Rattle.fdb_keys.specs.declared.refusal.Refusal.TheVariants.{Stale}
use Rattle.fdb_txn.specs.declared.entry.Entry.{Entry}
use Rattle.fdb_txn.specs.book.Book.{Head, Place, Seen, head_of, placed, seen_before}
use Rattle.fdb_txn.specs.book.History.{AreEntries}
use Rattle.fdb_txn.specs.book.Transactions.{Transaction}
use Rattle.fdb_log.specs.declared.message.LogMsg.{LogMsg}
use Rattle.fdb_storage.specs.LogMessages.{log_messages}
use Rattle.fdb_resolver.specs.declared.part.Item.{Item}
use Rattle.fdb_resolver.specs.declared.part.Part.{Part}
use Rattle.fdb_resolver.specs.declared.verdict.Verdicts.{Verdicts}
use Rattle.fdb_proxy.specs.declared.config.Config.{Config}
use Rattle.fdb_proxy.specs.declared.decision.Decision.{Decision}
use Rattle.fdb_proxy.specs.declared.logging.Logging.{Logging as Decided}
use Rattle.fdb_proxy.specs.declared.resolving.Resolving.{Resolving as Unheard}
use Rattle.fdb_proxy.specs.declared.stage.Stage.{Stage as CoreStage}
use Rattle.fdb_proxy.specs.declared.stage.Stage.TheVariants as stages
use Rattle.fdb_proxy.specs.CommitProxies.{ProxyWithRoom, waiting_for, verdict_fault, with_verdict, decide_fault}
use Rattle.fdb_proxy.specs.CommitProxies.{outcomes_in, decision_in, deciding, messages_of}
use Rattle.fdb_proxy.specs.Conflicts.{set_at}
use Rattle.fdb_proxy.specs.Deciding.{Said}
use Rattle.fdb_proxy.specs.Logging.{answers_by}
use Rattle.fdb_proxy.specs.Parting.{AreItems}
use Rattle.fdb_proxy.specs.Resolving as resolving
use Rattle.fdb_proxy.specs.Resolving.{with_verdicts, are_on, are_on_part, has_not_come, asks}
use Rattle.fdb_proxy.specs.Verdicts.{verdicts_from, verdicts_on, is_needed, outcomes_on}
use Rattle.fdb_core.specs.declared.roles.commit_proxy.CommitProxyRole.{CommitProxyRole}
use Rattle.fdb_machine.specs.machine.CommitProxySteps.{awaits, with_received, is_resolving, is_logging}
use Rattle.fdb_machine.specs.machine.Machine.{is_set, first_missing}
use Rattle.fdb_machine.specs.machine.Roles.{CommitProxy, FromResolver, Resolving, Logging}
use Rattle.fdb_roles.specs.ProxyStages.{IsCommitProxyAt, IsBatchOf, IsResolving, IsSaid}
use Rattle.fdb_core.specs.refinement.commit_proxy.Ties.{CommitProxyRefines, Known}
use Rattle.fdb_core.specs.refinement.commit_proxy.Ties.{Decides, stage_of, received_at, seen_as}
use Rattle.fdb_roles.proofs.Exports.{within-item, answers-by, map-set, proxies_hear_verdicts}
use Rattle.fdb_roles.proofs.Exports.{proxies_decide_by_the_rule, asked, conflicts-decided, outcomes-decided}
use Rattle.fdb_roles.proofs.Exports.{messages-decided}
use Rattle.fdb_core.proofs.refinement.commit_proxy.Fronts.{StageTold, stage-told, last-told, said-front, entries-front}
use Rattle.fdb_core.proofs.refinement.commit_proxy.StateStages.{exactly-by, awaited, same-test, staged, seen-staged}

-- the rule's verdicts on a batch are on just the places of the resolver's items
on-items : (splits : List Point) (head : Head) (i p : ℕ) (batch : List Transaction) (earlier : List Place)
    (items : List Item) → AreItems splits head i p batch items
    → are_on items (verdicts_from splits head i batch earlier p) ≡ true
on-items splits head i p [] earlier items are = rw are refl
on-items splits head i p (t ∷ ts) earlier items are = ⊎_elim
    (λ asked. let its = asked.1 in
    let place = placed head p t in
    rw (its.2, asked.0) (and_from (its.0.place == p)
    (are_on its.1 (verdicts_from splits head i ts (place ∷ earlier) (suc p)))
    (eq-eqb its.0.place p its.3)
    (on-items splits head i (suc p) ts (place ∷ earlier) its.1 its.5)))
    (λ unasked. rw unasked.0 (on-items splits head i (suc p) ts (placed head p t ∷ earlier) items unasked.1))
    are

-- whose verdicts haven't come has no flag set
come-flag : (verdicts : List (Option Said)) (r : ℕ) → r < length verdicts
    → has_not_come (slice_get verdicts r) ≡ not (is_set (map (λ (of : Option Said). is_some of) verdicts) r)
come-flag [] r within = absurd (omega (arith, within))
come-flag (None ∷ verdicts) zero within = refl
come-flag (Some said ∷ verdicts) zero within = refl
come-flag (of ∷ verdicts) (suc r) within = come-flag verdicts r (omega (arith, within))

module _ (config : Config) (book : List Entry) (known : Known) (role : CommitProxyRole)
    (ok : CommitProxyRefines config book known role) where
  -- a resolver's verdicts
  module _ (verdicts : Verdicts) (entry : Entry) (said : IsSaid config.resolver_splits book verdicts entry) where
    abbrev VerdictsAreAwaited : Bool
    VerdictsAreAwaited = awaits (seen_as role) verdicts.index (FromResolver verdicts.resolver)

    -- verdicts on the batch's entry are on its parts
    on-part : (its : Entry) (batch : Unheard) → slice_get book role.entry ≡ Some its
        → IsResolving config.resolver_splits book role.entry its batch → role.entry ≡ verdicts.index
        → are_on_part (slice_get batch.parts verdicts.resolver) verdicts.answers ≡ true
    on-part its batch there is same =
        let exists = said.exists in
        let parts_count = is.parts.count in
        let part = within-item batch.parts verdicts.resolver (omega (arith, exists, parts_count)) in
        let entry_is : entry ≡ its = same_Some entry its
        (sym said.there ∙ ap (slice_get book) (sym same) ∙ there) in
        let answers : verdicts.answers
        ≡ verdicts_on config.resolver_splits verdicts.resolver (seen_before book role.entry) its =
        said.answers ∙ ap₂ (λ (n : ℕ) (e : Entry).
        verdicts_on config.resolver_splits verdicts.resolver (seen_before book n) e) (sym same) entry_is in
        rw (part.1, answers) (on-items config.resolver_splits (head_of (seen_before book role.entry) its)
        verdicts.resolver 0 its.batch (seen_before book role.entry).places part.0.items
        (is.parts.each verdicts.resolver part.0 part.1).items)

    same-awaited : (its : Entry) (batch : Unheard) → batch.position.index ≡ role.entry
        → slice_get book role.entry ≡ Some its → IsResolving config.resolver_splits book role.entry its batch
        → resolving.is_awaited batch verdicts
        ≡ ((true && (role.entry == verdicts.index))
        && not (is_set (map (λ (of : Option Said). is_some of) batch.verdicts) verdicts.resolver))
    same-awaited its batch number there is =
        let exists = said.exists in
        let count = is.count in
        let flag = come-flag batch.verdicts verdicts.resolver (omega (arith, exists, count)) in
        let same : (verdicts.index == batch.position.index) ≡ (role.entry == verdicts.index) =
        ap (λ (n : ℕ). verdicts.index == n) number ∙ same-test verdicts.index role.entry in
        rw (same, flag) (⊎_elim
        (λ equal. rw (on-part its batch there is equal)
        (by_test (role.entry == verdicts.index)
        (not (is_set (map (λ (of : Option Said). is_some of) batch.verdicts) verdicts.resolver))))
        (λ differs. rw (ne_eqb role.entry verdicts.index differs) refl)
        (cases_eq role.entry verdicts.index))
      where
        by_test : (b s : Bool) → ((b && true) && s) ≡ ((true && b) && s)
        by_test true s = refl
        by_test false s = refl

    fault-said : verdict_fault role.state.proxy verdicts ≡ (if VerdictsAreAwaited then None else Some Stale)
    fault-said = by_stage role.state.proxy.stage refl (stage-told config book known role ok)
      where
        by_stage : (stage : CoreStage) → role.state.proxy.stage ≡ stage
            → StageTold config book role.is_reported role.entry role.state.proxy.batch stage
            → verdict_fault role.state.proxy verdicts ≡ (if VerdictsAreAwaited then None else Some Stale)
        by_stage stages.Idle is refines = rw (ok.state.works, is) refl
        by_stage stages.Sealed is refines = absurd refines
        by_stage stages.Entered is refines = absurd refines
        by_stage (stages.Resolving batch) is refines =
            rw (ok.state.works, is) (ap (λ (b : Bool). if b then None else Some Stale)
            (same-awaited refines.0 batch refines.1.index refines.1.there refines.2))
        by_stage (stages.Logging decided) is refines = by_flag role.is_reported refl
          where
            by_flag : (reported : Bool) → role.is_reported ≡ reported
                → verdict_fault role.state.proxy verdicts ≡ (if VerdictsAreAwaited then None else Some Stale)
            by_flag true flag = rw (ok.state.works, is, flag) refl
            by_flag false flag = rw (ok.state.works, is, flag) refl

    -- once they came
    after-said : (later : ProxyWithRoom) → VerdictsAreAwaited ≡ true → later.proxy
        ≡ with_verdict role.state.proxy verdicts
        → (seen_as (record role { state = later }) ≡ with_received (seen_as role) (FromResolver verdicts.resolver))
        × CommitProxyRefines config book known (record role { state = later })
    after-said later waits after = by_stage role.state.proxy.stage refl (stage-told config book known role ok)
      where
        by_stage : (stage : CoreStage) → role.state.proxy.stage ≡ stage
            → StageTold config book role.is_reported role.entry role.state.proxy.batch stage
            → (seen_as (record role { state = later }) ≡ with_received (seen_as role) (FromResolver verdicts.resolver))
            × CommitProxyRefines config book known (record role { state = later })
        by_stage stages.Idle is refines = absurd (true≢false (sym (rw is at waits)))
        by_stage stages.Sealed is refines = absurd refines
        by_stage stages.Entered is refines = absurd refines
        by_stage (stages.Logging decided) is refines = by_flag role.is_reported refl
          where
            by_flag : (reported : Bool) → role.is_reported ≡ reported
                → (seen_as (record role { state = later })
                ≡ with_received (seen_as role) (FromResolver verdicts.resolver))
                × CommitProxyRefines config book known (record role { state = later })
            by_flag true flag = absurd (true≢false (sym (rw (is, flag) at waits)))
            by_flag false flag = absurd (true≢false (sym (rw (is, flag) at waits)))
        by_stage (stages.Resolving batch) is refines =
            let stage = stages.Resolving (with_verdicts batch verdicts) in
            let next : later.proxy ≡ record role.state.proxy { stage = stage } = after ∙ rw is refl in
            let waiting : ((true && (role.entry == verdicts.index))
            && not (is_set (map (λ (of : Option Said). is_some of) batch.verdicts) verdicts.resolver)) ≡ true =
            rw is at waits in
            let same : role.entry ≡ verdicts.index = eqb-true role.entry verdicts.index
            (and_parts true (role.entry == verdicts.index)
            (and_parts (true && (role.entry == verdicts.index)) _ waiting).0).1 in
            let count = (last-told config book known role ok batch refines.0 is refines.1.there).count in (
              seen-staged config book known role ok later stage next
                  ∙ rw is (ap (λ (received : List Bool). record (seen_as role)
                  { stage = Resolving; verdicts_received = received; acknowledgements_received = [] })
                  (map-set (λ (of : Option Said). is_some of) batch.verdicts verdicts.resolver
                  (Some verdicts.answers))),
              staged config book known role ok later stage role.is_reported next
                  (subst (IsCommitProxyAt config ok.front) (rw is refl)
                  (proxies_hear_verdicts config ok.front entry role.state.proxy verdicts ok.state
                  (said-front config book known role ok verdicts entry said (omega (arith, count, same)))
                  (fault-said ∙ ap (λ (b : Bool). if b then None else Some Stale) waits)))
                  (refines.1.index, refines.3),
            )

    pub takes-verdicts : {T : Type 0} (result : Result T Refusal) (later : ProxyWithRoom)
        → AnswersExactly result (verdict_fault role.state.proxy verdicts)
        (λ _. later.proxy ≡ with_verdict role.state.proxy verdicts)
        → AnswersExactly result (if VerdictsAreAwaited then None else Some Stale)
        (λ _. (seen_as (record role { state = later }) ≡ with_received (seen_as role) (FromResolver verdicts.resolver))
        × CommitProxyRefines config book known (record role { state = later }))
    takes-verdicts {T} result later answers =
        exactly-by result (verdict_fault role.state.proxy verdicts) (if VerdictsAreAwaited then None else Some Stale)
        (λ (_ : T). later.proxy ≡ with_verdict role.state.proxy verdicts) _ fault-said
        (λ none given after. after-said later (awaited VerdictsAreAwaited none) after) answers

-- the least resolver that is missing is the least whose flag is
missing-same : (needed : ℕ → Bool) (n : ℕ) (parts : List Part) (verdicts : List (Option Said))
    → length verdicts ≡ length parts
    → ((i : ℕ) (part : Part) → slice_get parts i ≡ Some part → asks part ≡ needed (n + i))
    → resolving.first_missing n parts verdicts
    ≡ first_missing needed n (map (λ (of : Option Said). is_some of) verdicts)
missing-same needed n [] [] count asked = refl
missing-same needed n [] (of ∷ verdicts) count asked = absurd (omega (arith, count))
missing-same needed n (part ∷ parts) [] count asked = absurd (omega (arith, count))
missing-same needed n (part ∷ parts) (None ∷ verdicts) count asked =
    let number : n + 0 ≡ n = omega arith in
    ap₂ (λ (b : Bool) (rest : Option ℕ). if b && true then Some n else rest)
    (asked 0 part refl ∙ ap needed number)
    (missing-same needed (suc n) parts verdicts (omega (arith, count)) (λ i other there.
    let next : n + suc i ≡ suc n + i = omega arith in asked (suc i) other there ∙ ap needed next))
missing-same needed n (part ∷ parts) (Some said ∷ verdicts) count asked =
    rw (both (asks part), both (needed n))
    (missing-same needed (suc n) parts verdicts (omega (arith, count)) (λ i other there.
    let next : n + suc i ≡ suc n + i = omega arith in asked (suc i) other there ∙ ap needed next))
  where
    both : (b : Bool) → (b && false) ≡ false
    both true = refl
    both false = refl

-- the messages of a decided batch are those of its entry
messages-are : (config : Config) (book : List Entry) (known : Known) (role : CommitProxyRole)
    → CommitProxyRefines config book known role → is_logging (stage_of role.is_reported role.state.proxy.stage) ≡ true
    → (entry : Entry) → slice_get book role.entry ≡ Some entry
    → messages_of role.state.proxy ≡ log_messages config.resolver_splits config.shard_splits config.logs role.entry
    (seen_before book role.entry) entry
messages-are config book known role ok logging entry there =
    by_stage role.state.proxy.stage refl (stage-told config book known role ok)
  where
    sent : List LogMsg
    sent = log_messages config.resolver_splits config.shard_splits config.logs role.entry
        (seen_before book role.entry) entry

    by_stage : (stage : CoreStage) → role.state.proxy.stage ≡ stage
        → StageTold config book role.is_reported role.entry role.state.proxy.batch stage
        → messages_of role.state.proxy ≡ sent
    by_stage stages.Idle is refines = absurd (true≢false (sym (rw is at logging)))
    by_stage stages.Sealed is refines = absurd refines
    by_stage stages.Entered is refines = absurd refines
    by_stage (stages.Resolving batch) is refines = absurd (true≢false (sym (rw is at logging)))
    by_stage (stages.Logging decided) is refines =
        let its = refines.1 in
        let same : refines.0 ≡ entry = same_Some refines.0 entry (sym its.there ∙ there) in
        rw is
        (messages-decided config book role.entry refines.0 decided refines.2 role.state.proxy.shard_splits
        role.state.proxy.logs role.state.proxy.batch ok.state.shard_splits ok.state.logs its
        ∙ ap (log_messages config.resolver_splits config.shard_splits config.logs role.entry
        (seen_before book role.entry)) same)

-- what is decided of a batch that waits for verdicts
module _ (config : Config) (book : List Entry) (known : Known) (role : CommitProxyRole)
    (ok : CommitProxyRefines config book known role) (entry : Entry)
    (there : slice_get book role.entry ≡ Some entry) (entries : AreEntries (suc (length config.resolver_splits)) 0 book)
  where
    abbrev before : Seen
    before = seen_before book role.entry

    -- the batch is the entry's
    module _ (batch : Unheard) (stage : role.state.proxy.stage ≡ stages.Resolving batch)
        (its : IsBatchOf book role.entry role.state.proxy.batch batch.position entry)
        (is : IsResolving config.resolver_splits book role.entry entry batch) (unreported : role.is_reported ≡ false)
      where
        fault-decided : decide_fault role.state.proxy
            ≡ waiting_for (first_missing (λ resolver. is_needed config.resolver_splits resolver before entry) 0
            (received_at role.state.proxy.stage))
        fault-decided = rw (ok.state.works, stage) (ap waiting_for
            (missing-same (λ resolver. is_needed config.resolver_splits resolver before entry) 0 batch.parts
            batch.verdicts (is.count ∙ sym is.parts.count) (λ i part at.
            let number : i ≡ 0 + i = omega arith in
            asked config.resolver_splits book role.entry entry there batch is i part at
            ∙ ap (λ (n : ℕ). is_needed config.resolver_splits n before entry) number)))

        fault-none : decide_fault role.state.proxy ≡ None → resolving.first_missing 0 batch.parts batch.verdicts ≡ None
        fault-none none = by_missing (resolving.first_missing 0 batch.parts batch.verdicts)
            (rw (ok.state.works, stage) at none)
          where
            by_missing : (missing : Option ℕ) → waiting_for missing ≡ None → missing ≡ None
            by_missing None none = refl
            by_missing (Some number) none = cc

        -- what stands once it is decided
        decides : (later : ProxyWithRoom) (decision : Decision)
            → decide_fault role.state.proxy ≡ None → decision ≡ decision_in role.state.proxy
            → later.proxy ≡ deciding role.state.proxy
            → Decides config book known entry role decision (record role { state = later })
        decides later decision no_fault are after =
            let none = fault-none no_fault in
            let by_rule : outcomes_in role.state.proxy ≡ outcomes_on config.resolver_splits before entry =
            rw stage (outcomes-decided config.resolver_splits book role.entry entry there batch is
            role.state.proxy.batch its entries none) in
            let decided : Decided = record {
              position = batch.position;
              answers = answers_by role.state.proxy.batch (outcomes_in role.state.proxy);
              acknowledged = replicate role.state.proxy.logs false;
            } in
            let next : later.proxy
            ≡ record role.state.proxy { stage = stages.Logging decided } = after ∙ rw stage refl in
            record {
              outcomes_are = ap (λ (d : Decision). d.outcomes) are ∙ by_rule;
              conflicts_are = λ p x. ap (λ (d : Decision). in_set (set_at p d.conflicts) x) are
                  ∙ rw stage (conflicts-decided config.resolver_splits book role.entry entry there batch is
                  role.state.proxy.batch its entries none p x);
              machine = seen-staged config book known role ok later (stages.Logging decided) next
                  ∙ rw unreported (λ i. record (seen_as role) {
                    stage = Logging;
                    verdicts_received = [];
                    acknowledgements_received = replicate (ok.state.logs i) false;
                  });
              refines = staged config book known role ok later (stages.Logging decided) role.is_reported next
                  (subst (IsCommitProxyAt config ok.front) (rw stage refl)
                  (proxies_decide_by_the_rule config ok.front role.entry entry role.state.proxy ok.state
                  (entries-front config book known role ok entries)
                  (last-told config book known role ok batch entry stage there) no_fault).2)
                  (its.index, λ reported. absurd (true≢false (sym reported ∙ unreported)));
            }

    pub decides-resolving : is_resolving (stage_of role.is_reported role.state.proxy.stage) ≡ true
        → (batch : Unheard) × (role.state.proxy.stage ≡ stages.Resolving batch)
        × IsBatchOf book role.entry role.state.proxy.batch batch.position entry
        × IsResolving config.resolver_splits book role.entry entry batch × (role.is_reported ≡ false)
    decides-resolving resolving_now = by_stage role.state.proxy.stage refl (stage-told config book known role ok)
      where
        by_stage : (stage : CoreStage) → role.state.proxy.stage ≡ stage
            → StageTold config book role.is_reported role.entry role.state.proxy.batch stage
            → (batch : Unheard) × (role.state.proxy.stage ≡ stages.Resolving batch)
            × IsBatchOf book role.entry role.state.proxy.batch batch.position entry
            × IsResolving config.resolver_splits book role.entry entry batch × (role.is_reported ≡ false)
        by_stage stages.Idle is refines = absurd (true≢false (sym (rw is at resolving_now)))
        by_stage stages.Sealed is refines = absurd refines
        by_stage stages.Entered is refines = absurd refines
        by_stage (stages.Resolving batch) is refines =
            let same : refines.0 ≡ entry = same_Some refines.0
            entry (sym refines.1.there ∙ there) in (
              batch,
              is,
              subst (IsBatchOf book role.entry role.state.proxy.batch batch.position) same refines.1,
              subst (λ (e : Entry). IsResolving config.resolver_splits book role.entry e batch) same refines.2,
              refines.3,
            )
        by_stage (stages.Logging decided) is refines = by_flag role.is_reported refl
          where
            by_flag : (reported : Bool) → role.is_reported ≡ reported
                → (batch : Unheard) × (role.state.proxy.stage ≡ stages.Resolving batch)
                × IsBatchOf book role.entry role.state.proxy.batch batch.position entry
                × IsResolving config.resolver_splits book role.entry entry batch × (role.is_reported ≡ false)
            by_flag true flag = absurd (true≢false (sym (rw (is, flag) at resolving_now)))
            by_flag false flag = absurd (true≢false (sym (rw (is, flag) at resolving_now)))

    -- what the call answers by which it is decided, with the messages
    pub decides-answers : is_resolving (stage_of role.is_reported role.state.proxy.stage) ≡ true
        → (result : Result (Decision × List LogMsg) Refusal) (later : ProxyWithRoom)
        → Answers result (decide_fault role.state.proxy)
        (λ given. (given.0 ≡ decision_in role.state.proxy) × (later.proxy ≡ deciding role.state.proxy)
        × (given.1 ≡ messages_of later.proxy))
        → Answers result (waiting_for (first_missing
        (λ resolver. is_needed config.resolver_splits resolver before entry) 0 (received_at role.state.proxy.stage)))
        (λ given. Decides config book known entry role given.0 (record role { state = later })
        × (given.1 ≡ log_messages config.resolver_splits config.shard_splits config.logs role.entry before entry))
    decides-answers resolving_now result later answers =
        let found = decides-resolving resolving_now in
        let fault = fault-decided found.0 found.1 found.2 found.3 found.4 in
        answers-by result (decide_fault role.state.proxy) _
        (λ given. (given.0 ≡ decision_in role.state.proxy) × (later.proxy ≡ deciding role.state.proxy)
        × (given.1 ≡ messages_of later.proxy))
        (λ given. Decides config book known entry role given.0 (record role { state = later })
        × (given.1 ≡ log_messages config.resolver_splits config.shard_splits config.logs role.entry before entry)) fault
        (λ none given is.
        let decided = decides found.0 found.1 found.2 found.3 found.4 later given.0 (fault ∙ none) is.0 is.1 in (
          decided,
          is.2 ∙ messages-are config book known (record role { state = later }) decided.refines
              (ap (λ (p : CommitProxy). is_logging p.stage) decided.machine) entry there,
        )) answers
