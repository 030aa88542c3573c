use Rattle.std.proofs.Common.{◌≡◌, ◌∙◌, refl, sym, ap, ap₂, subst, length, ℕ, ◌++◌, false, List, map, Some, None}
use Rattle.std.proofs.Common.{Result, Err, inl, slice_get, slice_set, arith, rules}
use Rattle.std.specs.Vec.{with_item}
use Rattle.std.proofs.lemmas.Option.{slice_get_within}
use Rattle.fdb_keys.specs.Answers.{AnswersExactly}
use Rattle.fdb_keys.specs.declared.refusal.Refusal.{Refusal}
use Rattle.fdb_keys.specs.declared.refusal.Refusal.TheVariants.{NoMemory, WrongState}
use Rattle.fdb_txn.specs.declared.txn_id.TxnId.{TxnId}
use Rattle.fdb_client.specs.declared.program.Transcript.{Transcript}
use Rattle.fdb_proxy.specs.declared.outcome.Outcome.{Outcome}
use Rattle.fdb_core.specs.declared.cluster.Cluster.{Cluster}
use Rattle.fdb_roles.specs.declared.placed.Placed.{Placed}
use Rattle.fdb_machine.specs.declared.step.Answered.TheVariants as answered
use Rattle.fdb_machine.specs.declared.step.AnyStep.TheVariants as step
use Rattle.fdb_machine.specs.machine.Machine.{is_set}
use Rattle.fdb_machine.specs.machine.CommitProxySteps.{is_idle, placed_from}
use Rattle.fdb_machine.specs.machine.Sessions.{EachOpen, Sessions, tell_all}
use Rattle.fdb_core.specs.refinement.Cluster.{machine_of}
use Rattle.fdb_core.specs.refinement.Restoring.{failures_of, proxy_failed}
use Rattle.fdb_machine.specs.machine.Acting.{HaveActed}
use Rattle.fdb_core.specs.refinement.commit_proxy.Ties.{CommitProxyRefines, ReadsWithin, known_to, seen_as}
use Rattle.fdb_roles.proofs.Exports.{map-at, one-item, read-there, set-here}
use Rattle.fdb_machine.proofs.Exports.{open-told}
use Rattle.fdb_core.proofs.refinement.client.Sessions.{refines-sessions}
use Rattle.fdb_core.proofs.refinement.commit_proxy.Answering.{told_of, outcome_of, in-book, early, IsAnswered}
use Rattle.fdb_core.proofs.refinement.commit_proxy.Answering.{answers-idle, have-acted}
use Rattle.fdb_core.proofs.refinement.commit_proxy.Ties.{idle-seen}
use Rattle.fdb_core.proofs.refinement.commit_proxy.Answering.{finished as done-as}
use Rattle.fdb_core.proofs.refinement.commit_proxy.Failing.{answers-there, proxy-flags, proxy-tied, proxy-was}
use Rattle.fdb_core.proofs.refinement.RestoringLemmas.{flag-at, keeps-roles, restored}
use Rattle.fdb_core.proofs.refinement.StepLemmas.{accepted-restored, fails, kept, refused-restored, refuses}
use Rattle.fdb_core.proofs.refinement.StepLemmas.{lacked, works as works-so}
use Rattle.fdb_core.proofs.cluster.Cluster.answer.Goals as goal
use Rattle.fdb_core.proofs.cluster.Cluster.answer.Goals.{Else-is_idle, After-finish, In_ok-transcripts}

-- the proxy, which works and is busy
there : (c : Else-is_idle)
    → slice_get c.args.self.now.commit_proxies.items c.args.proxy ≡ Some c.index-commit_proxy.result.now
there c = read-there c.args.self.now.commit_proxies.items c.args.proxy c.index-commit_proxy.result.now (search rules)
    c.index-commit_proxy.ensures

working : (c : Else-is_idle) → proxy_failed c.index-commit_proxy.result.now ≡ false
working c = sym c.if-is_failed.ensures

was : (c : Else-is_idle)
    → slice_get c.requires.tied.roles.commit_proxies.items c.args.proxy ≡ Some c.index-commit_proxy.result.now
was c = proxy-was c.args.self.now c.requires.tied c.args.proxy c.index-commit_proxy.result.now (there c) (working c)

unused : (c : Else-is_idle) → is_set (failures_of c.args.self.now).commit_proxies c.args.proxy ≡ false
unused c = flag-at proxy_failed c.args.self.now.commit_proxies.items c.args.proxy c.index-commit_proxy.result.now
    (there c) ∙ working c

tie : (c : Else-is_idle) → CommitProxyRefines c.args.self.now.config c.args.self.now.book.items
    (known_to c.args.self.now.sequencer c.args.proxy) c.index-commit_proxy.result.now
tie c = c.requires.tied.refines.commit_proxies.each c.args.proxy c.index-commit_proxy.result.now (was c)

-- one that has failed answers nobody
pub returns-then-is_failed : goal.returns-then-is_failed
returns-then-is_failed c =
    let k = c.args.self.now in
    let role = c.index-commit_proxy.result.now in
    let answer = step.Answer c.args.proxy in
    let at : slice_get k.commit_proxies.items c.args.proxy ≡ Some role =
    read-there k.commit_proxies.items c.args.proxy role (search rules) c.index-commit_proxy.ensures in
    refuses answer
    (fails k answer (flag-at proxy_failed k.commit_proxies.items c.args.proxy role at ∙ sym c.if-is_failed.ensures)
    (answers-there k c.requires.tied c.args.proxy role at)) (kept k c.requires.tied)

busy : (c : Else-is_idle) → is_idle (seen_as c.index-commit_proxy.result.now).stage ≡ false
busy c =
    let k = c.args.self.now in
    sym (idle-seen k.config k.book.items (known_to k.sequencer c.args.proxy) c.index-commit_proxy.result.now (tie c))
    ∙ sym c.if-is_idle.ensures

-- who is idle has nothing to answer
pub returns-then-is_idle : goal.returns-then-is_idle
returns-then-is_idle c =
    let k = c.args.self.now in
    let answer = step.Answer c.args.proxy in
    let role = c.index-commit_proxy.result.now in
    let at : slice_get k.commit_proxies.items c.args.proxy ≡ Some role =
    read-there k.commit_proxies.items c.args.proxy role (search rules) c.index-commit_proxy.ensures in
    let works : proxy_failed role ≡ false = sym c.if-is_failed.ensures in
    let seen = idle-seen k.config k.book.items (known_to k.sequencer c.args.proxy) role
    (c.requires.tied.refines.commit_proxies.each c.args.proxy role (proxy-was k c.requires.tied c.args.proxy role at
    works)) in
    refuses answer
    (works-so k answer (Err WrongState)
    (flag-at proxy_failed k.commit_proxies.items c.args.proxy role at ∙ works)
    (answers-idle (machine_of k) c.args.proxy (seen_as role)
    (map-at seen_as k.commit_proxies.items c.args.proxy role at) (sym seen ∙ sym c.if-is_idle.ensures)))
    (kept k c.requires.tied)

pub index-requires : goal.index-requires
index-requires c =
    let k = c.args.self.now in
    let found = (goal.at.index-requires c).Else-is_idle in
    let inside = in-book (restored k c.requires.tied) c.requires.tied.refines c.args.proxy
    c.index-commit_proxy.result.now (was found) (busy found) in
    search rules

-- where the batch isn't reported, the machine says so
pub returns-then-not-is_reported : goal.returns-then-not-is_reported
returns-then-not-is_reported c =
    let found = (goal.at.returns-then-not-is_reported c).Else-is_idle in
    let k = c.args.self.now in
    let answer = step.Answer c.args.proxy in
    refuses answer
    (refused-restored k answer c.requires.tied _ (unused found)
    (early (restored k c.requires.tied) c.requires.tied.refines c.args.proxy c.index-commit_proxy.result.now (was found)
    (busy found) c.index.result.now c.index.ensures c.if-not-is_reported.true)) (kept k c.requires.tied)

-- where there is no room for those that are acknowledged, all is as before
pub returns-in_err-reserve : goal.returns-in_err-reserve
returns-in_err-reserve c =
    let k = c.args.self.now in
    let tied = c.requires.tied in
    let answer = step.Answer c.args.proxy in
    let same : c.from_residual-in_err-reserve.result ≡ Err NoMemory = search rules in
    lacked k answer c.from_residual-in_err-reserve.result _ NoMemory same refl (record {
      machine = ap (λ (placed : List Placed). record (machine_of k) { acknowledged = placed })
          c.in_err-reserve.ensures.items;
      failed = inl refl;
      tied = keeps-roles k tied _ refl refl refl refl
          (refines-sessions (restored k tied) k.grv_proxies k.sessions c.reserve.new.self tied.refines
          tied.refines.grv_proxies tied.refines.opened);
    })

-- what the call gives is the machine's answer
finished : (c : After-finish)
    → AnswersExactly c.finish.result None (λ (given : List Transcript × List (TxnId × Outcome)).
    IsAnswered (restored c.args.self.now c.requires.tied) c.args.proxy c.index-commit_proxy.result.now given.0 given.1
    c.finish.new.self)
finished c =
    let k = c.args.self.now in
    let role = c.index-commit_proxy.result.now in
    let found = (goal.at.After-finish c).Else-is_idle in
    done-as (restored k c.requires.tied) c.requires.tied.refines c.args.proxy role (was found) (busy found)
    c.if-not-is_reported.false
    c.finish.new.self c.finish.result c.index_mut-commit_proxy.result.now
    (one-item k.commit_proxies.items c.args.proxy c.index_mut-commit_proxy.result.now role (search rules)
    c.index_mut-commit_proxy.ensures.value (there found))
    c.finish.ensures

-- so it never refuses
pub returns-in_err-transcripts : goal.returns-in_err-transcripts
returns-in_err-transcripts c =
    absurd (subst (λ (result : Result (List Transcript × List (TxnId × Outcome)) Refusal).
    AnswersExactly result None (λ given. IsAnswered (restored c.args.self.now c.requires.tied) c.args.proxy
    c.index-commit_proxy.result.now
    given.0 given.1 c.finish.new.self)) c.in_err-transcripts.was
    (finished (goal.at.returns-in_err-transcripts c).After-finish))

-- and what it gave is that
module _ (c : In_ok-transcripts) where
  done : IsAnswered (restored c.args.self.now c.requires.tied) c.args.proxy c.index-commit_proxy.result.now
      c.in_ok-transcripts.transcripts
      c.in_ok-transcripts.answers c.finish.new.self
  done = subst (λ (result : Result (List Transcript × List (TxnId × Outcome)) Refusal).
      AnswersExactly result None (λ it. IsAnswered (restored c.args.self.now c.requires.tied) c.args.proxy
      c.index-commit_proxy.result.now
      it.0 it.1 c.finish.new.self)) c.in_ok-transcripts.was (finished (goal.at.In_ok-transcripts c).After-finish)

  -- there are as many as room was made for
  count : length c.in_ok-transcripts.transcripts ≡ c.len-count.result
  count = ap length done.own ∙ sym c.len-count.ensures

  answers-count : length c.in_ok-transcripts.answers ≡ c.len-count.result
  answers-count = sym done.each ∙ count

pub reply_all-requires : goal.reply_all-requires
reply_all-requires c =
    let many = answers-count (goal.at.reply_all-requires c).In_ok-transcripts in
    let here = ap length c.as_slice-answers.ensures in
    omega (arith, many, here, c.in_ok-told.ensures.len, c.in_ok-told.ensures.capacity)

pub tell_all-requires : goal.tell_all-requires
tell_all-requires c =
    let k = c.args.self.now in
    let found = (goal.at.tell_all-requires c).In_ok-transcripts in
    let first = (goal.at.tell_all-requires c).Else-is_idle in
    subst (HaveActed k.sessions) (sym (c.as_slice.ensures ∙ (done found).own))
    (have-acted (machine_of k) c.requires.named c.args.proxy (seen_as c.index-commit_proxy.result.now)
    (map-at seen_as k.commit_proxies.items c.args.proxy c.index-commit_proxy.result.now (there first)))

pub place_all-requires-clause-each : goal.place_all-requires-clause-each
place_all-requires-clause-each c =
    (done (goal.at.place_all-requires-clause-each c).In_ok-transcripts).each
    ∙ sym (ap length c.as_slice-answers.ensures)

pub place_all-requires-clause-room : goal.place_all-requires-clause-room
place_all-requires-clause-room c =
    let many = count (goal.at.place_all-requires-clause-room c).In_ok-transcripts in
    omega (arith, many, c.in_ok-reserve.ensures.ok)

pub returns : goal.returns
returns c =
    let k = c.args.self.now in
    let before = c.requires.tied.refines in
    let it = done (goal.at.returns c).In_ok-transcripts in
    let placed : c.place_all.new.placed.items ≡ k.acknowledged.items
    ++ placed_from c.index-commit_proxy.result.now.entry c.in_ok-transcripts.transcripts
    (map outcome_of c.in_ok-transcripts.answers) =
    c.place_all.ensures
    ∙ ap₂ (λ (before : List Placed) (given : List (TxnId × Outcome)).
    before ++ placed_from c.index-commit_proxy.result.now.entry c.in_ok-transcripts.transcripts (map outcome_of given))
    c.in_ok-reserve.ensures.items c.as_slice-answers.ensures in
    let told : c.tell_all.new.sessions ≡ tell_all c.in_ok-transcripts.transcripts k.sessions =
    c.tell_all.ensures
    ∙ ap (λ (transcripts : List Transcript). tell_all transcripts k.sessions) c.as_slice.ensures in
    let replies : c.reply_all.new.told.items ≡ map told_of c.in_ok-transcripts.answers =
    c.reply_all.ensures
    ∙ ap₂ (λ (before : List (ℕ × Outcome)) (given : List (TxnId × Outcome)). before ++ map told_of given)
    c.in_ok-told.ensures.items c.as_slice-answers.ensures in
    let first = (goal.at.returns c).Else-is_idle in
    let tied = c.requires.tied in
    let k0 = restored k tied in
    let role = c.index-commit_proxy.result.now in
    let later = c.finish.new.self in
    let works = (it.tied.each c.args.proxy later (set-here tied.roles.commit_proxies.items c.args.proxy later
    (slice_get_within tied.roles.commit_proxies.items c.args.proxy role (was first)))).state.works in
    let new : Cluster = record k {
      sessions = c.tell_all.new.sessions;
      acknowledged = c.place_all.new.placed;
      commit_proxies = with_item k.commit_proxies c.args.proxy later;
    } in
    let opened : EachOpen (ReadsWithin k.sequencer.committed) c.tell_all.new.sessions = rw c.tell_all.ensures
    (open-told (ReadsWithin k.sequencer.committed) c.as_slice.result.now k.sessions before.opened) in
    accepted-restored k new (step.Answer c.args.proxy) tied
    (proxy-tied k tied c.args.proxy later new refl refl refl refl (record {
      legal = before.legal;
      room = before.room;
      sequencer = before.sequencer;
      book = before.book;
      parts = before.parts;
      resolvers = before.resolvers;
      logs = before.logs;
      shard_map = before.shard_map;
      commit_proxies = it.tied;
      grv_proxies = before.grv_proxies;
      opened = opened;
      conflicts = before.conflicts;
    })) (unused first) it.goes_on
    (ap (λ (replies : List (ℕ × Outcome)). answered.Answers replies) (c.from_vec.ensures ∙ replies))
    (ap₂ (λ (acknowledged : List Placed) (sessions : Sessions). record (machine_of k0) {
      acknowledged = acknowledged;
      sessions = sessions;
      commit_proxies = map seen_as (slice_set k0.commit_proxies.items c.args.proxy later);
    }) placed told)
    (proxy-flags k new c.args.proxy role later (there first) refl refl refl refl (works ∙ sym (working first)))
