-- What each call leaves of a commit proxy that has the entries of a book through that of its last ticket.
use Rattle.std.proofs.Common.{◌≡◌, ◌∙◌, refl, sym, ap, subst, ℕ, zero, suc, ◌<◌, ◌==◌, Bool, true, false, List, [], ◌∷◌}
use Rattle.std.proofs.Common.{◌++◌, length, replicate, Option, Some, None, slice_get, if◌then◌else◌, arith}
use Rattle.std.proofs.lemmas.Bool.{and_parts, eqb-true, true≢false}
use Rattle.std.proofs.lemmas.List.{append_assoc, length-replicate}
use Rattle.std.proofs.lemmas.Option.{same_Some}
use Rattle.fdb_keys.specs.declared.refusal.Refusal.{Refusal}
use Rattle.fdb_keys.specs.declared.refusal.Refusal.TheVariants.{WrongState}
use Rattle.fdb_keys.proofs.Exports.{all-weaken}
use Rattle.fdb_txn.specs.declared.entry.Entry.{Entry}
use Rattle.fdb_txn.specs.book.Book.{seen_of, seen_before, last_horizon}
use Rattle.fdb_txn.specs.book.History.{AreEntries, HorizonsRise}
use Rattle.fdb_txn.proofs.Exports.{horizons_part}
use Rattle.fdb_txn.specs.book.Places.{place_of}
use Rattle.fdb_txn.specs.book.Transactions.{Transaction, NamesWrites}
use Rattle.fdb_owners.proofs.Exports.{new_goes_on}
use Rattle.fdb_sequencer.specs.declared.ticket.Ticket.{Ticket}
use Rattle.fdb_sequencer.specs.declared.dated.Dated.{Dated}
use Rattle.fdb_sequencer.specs.TicketLaws.{MayBeLearnt}
use Rattle.fdb_log.specs.declared.message.LogAck.{LogAck}
use Rattle.fdb_storage.specs.LogMessages.{log_messages}
use Rattle.fdb_proxy.specs.declared.config.Config.{Config}
use Rattle.fdb_proxy.specs.declared.logging.Logging.{Logging as Decided}
use Rattle.fdb_proxy.specs.declared.outcome.Outcome.{Outcome}
use Rattle.fdb_proxy.specs.declared.stage.Stage.{Stage as CoreStage}
use Rattle.fdb_proxy.specs.declared.stage.Stage.TheVariants as core
use Rattle.fdb_proxy.specs.CommitProxies.{CommitProxy, IsTicketFor, HasLearntTicket, is_sealed, sealing, unsealing}
use Rattle.fdb_proxy.specs.CommitProxies.{learn_fault, position_of, without_verdicts, parts_in, waiting_for}
use Rattle.fdb_proxy.specs.CommitProxies.{with_verdict, outcomes_in, conflicts_in, deciding, messages_fault}
use Rattle.fdb_proxy.specs.CommitProxies.{messages_of, with_logged, answers_in}
use Rattle.fdb_proxy.specs.Conflicts.{conflicts_by}
use Rattle.fdb_proxy.specs.Deciding.{outcomes_by}
use Rattle.fdb_proxy.specs.Logging.{answers_by, messages_by, with_acknowledgement}
use Rattle.fdb_proxy.specs.Parting.{AreParts}
use Rattle.fdb_proxy.specs.Resolving as resolving
use Rattle.fdb_proxy.specs.Resolving.{with_verdicts}
use Rattle.fdb_proxy.specs.Verdicts.{moves_through, outcomes_on}
use Rattle.fdb_roles.specs.ProxyLaws.{IsLastEntry, NewProxiesHaveNoEntry, BatchesAreOfTheLastEntry, RequestsComeAndGo}
use Rattle.fdb_roles.specs.ProxyLaws.{ProxiesLearnTheirTickets, ProxiesHearVerdicts, ProxiesDecideByTheRule}
use Rattle.fdb_roles.specs.ProxyLaws.{MessagesAreOfTheEntry, ProxiesHearLogs, ProxiesAnswerByTheRule}
use Rattle.fdb_roles.specs.ProxyLaws.{AnswersAreByTheRule}
use Rattle.fdb_roles.specs.ProxyStages.{AreConflictsOn, IsStageAt, IsCommitProxyAt, position_in}
use Rattle.fdb_roles.specs.Entries.{dated_moves, entry_of}
use Rattle.fdb_roles.proofs.BodyLemmas.{length-answers, length-outcomes_on}
use Rattle.fdb_roles.proofs.PlaceLemmas.{place-by-rule}
use Rattle.fdb_roles.proofs.BatchStages.{IsLearnt, is-learnt, ticket-fits, ticket-learns, resolving-heard}
use Rattle.fdb_roles.proofs.BatchStages.{outcomes-decided, conflicts-decided, answers-decided, logging-heard}
use Rattle.fdb_roles.proofs.BatchStages.{messages-decided}
use Rattle.fdb_roles.proofs.BookLemmas.{rise-lower}
use Rattle.fdb_roles.proofs.MoveLemmas.{dated_moves-append, entries-behind, ticket-after}
use Rattle.fdb_roles.proofs.ResolverLemmas.{entries-after}

pub new_proxies_have_no_entry : NewProxiesHaveNoEntry
new_proxies_have_no_entry config index proxy new = record {
  works = ap (λ (p : CommitProxy). p.is_failed) new.rest;
  logs = ap (λ (p : CommitProxy). p.logs) new.rest;
  shard_splits = ap (λ (p : CommitProxy). p.shard_splits) new.rest;
  splits = new.owners.splits_are;
  owners = new_goes_on config.resolver_splits proxy.owners new.owners;
  last = ap (λ (p : CommitProxy). p.last) new.rest;
  stage = subst (λ (p : CommitProxy). IsStageAt config [] p.batch p.stage) (sym new.rest) refl;
  floor = let floor = new.owners.floor in omega (arith, floor);
}

-- A proxy that has the entries.
module _ (config : Config) (front : List Entry) (proxy : CommitProxy) (at : IsCommitProxyAt config front proxy) where
  -- with other requests, at another stage
  pub stays : (waiting batch : List Transaction) (stage : CoreStage) → IsStageAt config front batch stage
      → IsCommitProxyAt config front (record proxy { waiting = waiting; batch = batch; stage = stage })
  stays waiting batch stage is = record {
    works = at.works;
    logs = at.logs;
    shard_splits = at.shard_splits;
    splits = at.splits;
    owners = at.owners;
    last = at.last;
    stage = is;
    floor = at.floor;
  }

  unsealed : IsCommitProxyAt config front (unsealing proxy)
  unsealed = by_test (is_sealed proxy.stage)
    where
      by_test : (test : Bool) → IsCommitProxyAt config front
          (if test then record proxy { batch = []; waiting = proxy.batch ++ proxy.waiting; stage = core.Idle } else
          proxy)
      by_test true = stays (proxy.batch ++ proxy.waiting) [] core.Idle refl
      by_test false = at

  logged : (ack : LogAck) → IsCommitProxyAt config front (with_logged proxy ack)
  logged ack = by_stage proxy.stage refl at.stage
    where
      by_stage : (stage : CoreStage) → proxy.stage ≡ stage → IsStageAt config front proxy.batch stage
          → IsCommitProxyAt config front (with_logged proxy ack)
      by_stage core.Idle is here = rw is (stays proxy.waiting proxy.batch core.Idle here)
      by_stage core.Sealed is here = rw is (stays proxy.waiting proxy.batch core.Sealed here)
      by_stage core.Entered is here = absurd here
      by_stage (core.Resolving batch) is here = rw is (stays proxy.waiting proxy.batch (core.Resolving batch) here)
      by_stage (core.Logging decided) is here = rw is
          (stays proxy.waiting proxy.batch (core.Logging (with_acknowledgement decided ack)) (
            here.0,
            here.1,
            here.2,
            here.3,
            logging-heard config front here.0 here.1 decided here.4 ack,
          ))

pub requests_come_and_go : RequestsComeAndGo
requests_come_and_go config front proxy at = (
  λ t. stays config front proxy at (proxy.waiting ++ t ∷ []) proxy.batch proxy.stage at.stage,
  stays config front proxy at (sealing proxy).waiting (sealing proxy).batch core.Sealed tt,
  unsealed config front proxy at,
  stays config front proxy at [] proxy.batch proxy.stage at.stage,
)

pub proxies_hear_logs : ProxiesHearLogs
proxies_hear_logs config front proxy ack at = logged config front proxy at ack

-- The ticket of its batch.
module _ (config : Config) (front between : List Entry) (old : CommitProxy) (ticket : Ticket)
    (at : IsCommitProxyAt config front old)
    (entries : AreEntries (suc (length config.resolver_splits)) 0
    ((front ++ between) ++ entry_of ticket old.batch ∷ []))
    (rise : HorizonsRise 0 ((front ++ between) ++ entry_of ticket old.batch ∷ []))
    (number : ticket.index ≡ length (front ++ between))
    (moves : ticket.moves ≡ dated_moves (between ++ entry_of ticket old.batch ∷ [])) where
  abbrev entry : Entry
  entry = entry_of ticket old.batch

  abbrev before : List Entry
  before = front ++ between

  -- what comes after the proxy's entries
  behind : AreEntries (suc (length config.resolver_splits)) old.last (between ++ entry ∷ [])
  behind = subst (λ (last : ℕ). AreEntries (suc (length config.resolver_splits)) last (between ++ entry ∷ []))
      (sym at.last) (entries-behind (suc (length config.resolver_splits)) front between entry entries)

  -- and no horizon there is below those up to which its owners forgot
  risen : HorizonsRise old.owners.floor (between ++ entry ∷ [])
  risen = rise-lower old.owners.floor (last_horizon front) (between ++ entry ∷ []) at.floor
      ((horizons_part 0 front (between ++ entry ∷ [])).0
      (subst (HorizonsRise 0) (append_assoc front between (entry ∷ [])) rise)).1

  may : MayBeLearnt (suc (length config.resolver_splits)) old.last old.owners.floor ticket
  may = ticket-after (suc (length config.resolver_splits)) old.last old.owners.floor between entry ticket behind risen
      refl refl moves

  may-learn : IsTicketFor old ticket
  may-learn = ticket-fits config.resolver_splits old ticket at.splits may
      (all-weaken (λ (t : Transaction). (t.read < ticket.version) × NamesWrites t)
      (λ (t : Transaction). t.read < ticket.version) (λ t may. may.0) old.batch
      (entries-after (suc (length config.resolver_splits)) 0 before entry entries).3)

  learns : learn_fault old ticket ≡ (if is_sealed old.stage then None else Some WrongState)
  learns = by_test (is_sealed old.stage) refl
    where
      by_test : (test : Bool) → is_sealed old.stage ≡ test
          → learn_fault old ticket ≡ (if test then None else Some WrongState)
      by_test true sealed = ticket-learns config.resolver_splits old ticket at.splits may at.works sealed
      by_test false unsealed = rw (at.works, unsealed) refl

  -- the moves of the proxy's entries, and then the ticket's, are those of all
  all-moves : dated_moves front ++ ticket.moves ≡ dated_moves (before ++ entry ∷ [])
  all-moves = ap (λ (more : List Dated). dated_moves front ++ more) moves
      ∙ sym (dated_moves-append front (between ++ entry ∷ []))
      ∙ ap dated_moves (sym (append_assoc front between (entry ∷ [])))

  -- once it is learnt
  module _ (new : CommitProxy) (learnt : HasLearntTicket old ticket new) where
    its : IsLearnt config before old new ticket learnt.resolving
    its = is-learnt config front before old new ticket at learnt number may.horizon all-moves

    unheard : new.stage ≡ core.Resolving (without_verdicts (position_of ticket) (parts_in new.stage))
    unheard = its.stage ∙ ap core.Resolving learnt.without_verdicts.rest
        ∙ ap (λ (stage : CoreStage). core.Resolving (without_verdicts (position_of ticket) (parts_in stage)))
        (sym its.stage)

    parts-there : AreParts config.resolver_splits (moves_through (seen_of before) entry)
        (position_in (length before) entry) entry.batch (parts_in new.stage)
    parts-there = subst (λ (stage : CoreStage). AreParts config.resolver_splits (moves_through (seen_of before) entry)
        (position_in (length before) entry) entry.batch (parts_in stage))
        (sym its.stage)
        (subst (λ (n : ℕ). AreParts config.resolver_splits (moves_through (seen_of before) entry)
        (position_in n entry) entry.batch learnt.resolving.parts) number
        its.parts)

pub proxies_learn_their_tickets : ProxiesLearnTheirTickets
proxies_learn_their_tickets config front between old ticket at entries rise number moves = (
  may-learn config front between old ticket at entries rise number moves,
  learns config front between old ticket at entries rise number moves,
  λ new learnt. (
    (its config front between old ticket at entries rise number moves new learnt).at,
    unheard config front between old ticket at entries rise number moves new learnt,
    parts-there config front between old ticket at entries rise number moves new learnt,
  ),
)

pub batches_are_of_the_last_entry : BatchesAreOfTheLastEntry
batches_are_of_the_last_entry config front proxy at busy unsealed = by_stage proxy.stage refl at.stage
  where
    by_stage : (stage : CoreStage) → proxy.stage ≡ stage → IsStageAt config front proxy.batch stage
        → (i : ℕ) × (entry : Entry) × IsLastEntry front i entry × (proxy.batch ≡ entry.batch)
    by_stage core.Idle is here = absurd (true≢false (rw is at busy))
    by_stage core.Sealed is here = absurd (true≢false (rw is at unsealed))
    by_stage core.Entered is here = absurd here
    by_stage (core.Resolving batch) is here =
        (here.0, here.1, record { count = here.2; there = here.3.there }, here.3.places)
    by_stage (core.Logging decided) is here =
        (here.0, here.1, record { count = here.2; there = here.3.there }, here.3.places)

-- nothing is refused where a test holds
taken : (test : Bool) (why : Refusal) → (if test then None else Some why) ≡ None → test ≡ true
taken true why none = refl
taken false why none = cc

-- none is waited for
none-waits : (missing : Option ℕ) → waiting_for missing ≡ None → missing ≡ None
none-waits None none = refl
none-waits (Some n) none = cc

pub proxies_hear_verdicts : ProxiesHearVerdicts
proxies_hear_verdicts config front entry proxy verdicts at said no_fault = by_stage proxy.stage refl at.stage
  where
    by_stage : (stage : CoreStage) → proxy.stage ≡ stage → IsStageAt config front proxy.batch stage
        → IsCommitProxyAt config front (with_verdict proxy verdicts)
    by_stage core.Idle is here = let wrong = rw (at.works, is) at no_fault in cc
    by_stage core.Sealed is here = let wrong = rw (at.works, is) at no_fault in cc
    by_stage core.Entered is here = absurd here
    by_stage (core.Logging decided) is here = let wrong = rw (at.works, is) at no_fault in cc
    by_stage (core.Resolving batch) is here =
        let awaited : resolving.is_awaited batch verdicts ≡ true =
        taken (resolving.is_awaited batch verdicts) _ (rw (at.works, is) at no_fault) in
        let same : verdicts.index ≡ batch.position.index = eqb-true verdicts.index batch.position.index
        (and_parts (verdicts.index == batch.position.index) _ (and_parts _ _ awaited).0).0 in
        rw is (stays config front proxy at proxy.waiting proxy.batch (core.Resolving (with_verdicts batch verdicts)) (
          here.0,
          here.1,
          here.2,
          here.3,
          resolving-heard config.resolver_splits front here.0 here.1 here.3.there batch here.4 verdicts entry said
              (sym (same ∙ here.3.index)),
        ))

-- the last entry has one number, and is one
module _ (front : List Entry) (i : ℕ) (entry : Entry) (last : IsLastEntry front i entry) where
  same-number : (j : ℕ) → length front ≡ suc j → j ≡ i
  same-number j count = let other = last.count in omega (arith, count, other)

  same-entry : (j : ℕ) (e : Entry) → length front ≡ suc j → slice_get front j ≡ Some e → e ≡ entry
  same-entry j e count there = same_Some e entry
      (sym there ∙ ap (slice_get front) (same-number j count) ∙ last.there)

  -- so what holds of the one that is in flight holds of it
  pub of-last : (P : ℕ → Entry → Type 0) (j : ℕ) (e : Entry) → length front ≡ suc j → slice_get front j ≡ Some e
      → P j e → P i entry
  of-last P j e count there holds =
      subst (λ (n : ℕ). P n entry) (same-number j count) (subst (P j) (same-entry j e count there) holds)

pub proxies_decide_by_the_rule : ProxiesDecideByTheRule
proxies_decide_by_the_rule config front i entry proxy at entries last no_fault = by_stage proxy.stage refl at.stage
  where
    by_stage : (stage : CoreStage) → proxy.stage ≡ stage → IsStageAt config front proxy.batch stage
        → (outcomes_in proxy ≡ outcomes_on config.resolver_splits (seen_before front i) entry)
        × (messages_fault (deciding proxy) ≡ None) × IsCommitProxyAt config front (deciding proxy)
        × AreConflictsOn config.resolver_splits (seen_before front i) entry (conflicts_in proxy)
    by_stage core.Idle is here = let wrong = rw (at.works, is) at no_fault in cc
    by_stage core.Sealed is here = let wrong = rw (at.works, is) at no_fault in cc
    by_stage core.Entered is here = absurd here
    by_stage (core.Logging decided) is here = let wrong = rw (at.works, is) at no_fault in cc
    by_stage (core.Resolving batch) is here =
        let none : resolving.first_missing 0 batch.parts batch.verdicts ≡ None =
        none-waits (resolving.first_missing 0 batch.parts batch.verdicts) (rw (at.works, is) at no_fault) in
        let decided : Decided = record {
          position = batch.position;
          answers = answers_by proxy.batch (outcomes_in proxy);
          acknowledged = replicate proxy.logs false;
        } in
        let next : deciding proxy ≡ record proxy { stage = core.Logging decided } = rw is refl in (
          rw is (of-last front i entry last
              (λ (n : ℕ) (e : Entry). outcomes_by batch.position.version batch.verdicts (length proxy.batch)
              ≡ outcomes_on config.resolver_splits (seen_before front n) e) here.0 here.1 here.2 here.3.there
              (outcomes-decided config.resolver_splits front here.0 here.1 here.3.there batch here.4 proxy.batch here.3
              entries none)),
          rw (is, at.works) refl,
          subst (IsCommitProxyAt config front) (sym next)
              (stays config front proxy at proxy.waiting proxy.batch (core.Logging decided) (
                here.0,
                here.1,
                here.2,
                here.3,
                record {
                  answers = rw is (answers-decided config.resolver_splits front here.0 here.1 here.3.there batch here.4
                      proxy.batch here.3 entries none);
                  count = length-replicate proxy.logs false ∙ at.logs;
                },
              )),
          rw is (of-last front i entry last
              (λ (n : ℕ) (e : Entry). AreConflictsOn config.resolver_splits (seen_before front n) e
              (conflicts_by batch.conflicts (length proxy.batch))) here.0 here.1 here.2 here.3.there
              (conflicts-decided config.resolver_splits front here.0 here.1 here.3.there batch here.4 proxy.batch here.3
              entries none)),
        )

pub messages_are_of_the_entry : MessagesAreOfTheEntry
messages_are_of_the_entry config front i entry proxy at last no_fault = by_stage proxy.stage refl at.stage
  where
    by_stage : (stage : CoreStage) → proxy.stage ≡ stage → IsStageAt config front proxy.batch stage
        → messages_of proxy
        ≡ log_messages config.resolver_splits config.shard_splits config.logs i (seen_before front i) entry
    by_stage core.Idle is here = let wrong = rw (at.works, is) at no_fault in cc
    by_stage core.Sealed is here = let wrong = rw (at.works, is) at no_fault in cc
    by_stage core.Entered is here = absurd here
    by_stage (core.Resolving batch) is here = let wrong = rw (at.works, is) at no_fault in cc
    by_stage (core.Logging decided) is here = rw is
        (of-last front i entry last
        (λ (n : ℕ) (e : Entry). messages_by proxy.shard_splits proxy.logs proxy.batch decided
        ≡ log_messages config.resolver_splits config.shard_splits config.logs n (seen_before front n) e)
        here.0 here.1 here.2 here.3.there
        (messages-decided config front here.0 here.1 decided here.4 proxy.shard_splits proxy.logs proxy.batch
        at.shard_splits at.logs here.3))

pub proxies_answer_by_the_rule : ProxiesAnswerByTheRule
proxies_answer_by_the_rule config front i entry proxy at last no_fault = (
  by_stage proxy.stage refl at.stage,
  stays config front proxy at proxy.waiting [] core.Idle refl,
)
  where
    by_stage : (stage : CoreStage) → proxy.stage ≡ stage → IsStageAt config front proxy.batch stage
        → answers_in proxy.stage
        ≡ answers_by entry.batch (outcomes_on config.resolver_splits (seen_before front i) entry)
    by_stage core.Idle is here = let wrong = rw (at.works, is) at no_fault in cc
    by_stage core.Sealed is here = let wrong = rw (at.works, is) at no_fault in cc
    by_stage core.Entered is here = absurd here
    by_stage (core.Resolving batch) is here = let wrong = rw (at.works, is) at no_fault in cc
    by_stage (core.Logging decided) is here = rw is
        (of-last front i entry last
        (λ (n : ℕ) (e : Entry). decided.answers
        ≡ answers_by e.batch (outcomes_on config.resolver_splits (seen_before front n) e))
        here.0 here.1 here.2 here.3.there here.4.answers)

-- the answer at a place is the outcome there, for its transaction
answer-at : (batch : List Transaction) (outcomes : List Outcome) (p : ℕ) (t : Transaction) (became : Outcome)
    → slice_get batch p ≡ Some t → slice_get outcomes p ≡ Some became
    → slice_get (answers_by batch outcomes) p ≡ Some (t.id, became)
answer-at [] outcomes p t became at there = cc
answer-at (first ∷ batch) [] p t became at there = cc
answer-at (first ∷ batch) (one ∷ outcomes) zero t became at there =
    let same : first ≡ t = cc in
    let is : one ≡ became = cc in λ k. Some ((same k).id, is k)
answer-at (first ∷ batch) (one ∷ outcomes) (suc p) t became at there = answer-at batch outcomes p t became at there

pub answers_are_by_the_rule : AnswersAreByTheRule
answers_are_by_the_rule splits book n entry there =
    let outcomes = outcomes_on splits (seen_before book n) entry in
    record {
      each_once = length-answers entry.batch outcomes (length-outcomes_on splits (seen_before book n) entry);
      by_rule = λ p place at.
          let its = place-by-rule splits (seen_before book n) entry p place
          (sym (ap (place_of (seen_before book n) p) there) ∙ at) in
          (its.0, answer-at entry.batch outcomes p place.0.transaction its.0 its.2 its.1, its.3);
    }
