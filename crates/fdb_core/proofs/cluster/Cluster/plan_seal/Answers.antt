use Rattle.std.proofs.Common.{◌≡◌, ◌∙◌, sym, ap, ⊎_elim, inl, inr, true, false, Some, Err, slice_get, rules}
use Rattle.fdb_keys.specs.declared.refusal.Refusal.{Refusal}
use Rattle.fdb_keys.specs.declared.refusal.Refusal.TheVariants.{BookFull, WrongState}
use Rattle.fdb_sequencer.specs.declared.ticket.Ticket.{Ticket}
use Rattle.fdb_sequencer.specs.Sequencer.{plan_fault, planned}
use Rattle.fdb_proxy.specs.CommitProxies.{is_idle as has_no_batch}
use Rattle.fdb_machine.specs.declared.step.AnyStep.TheVariants as step
use Rattle.fdb_machine.specs.machine.CommitProxySteps.{is_idle}
use Rattle.fdb_machine.specs.machine.Machine.{is_set}
use Rattle.fdb_core.specs.refinement.Restoring.{failures_of, proxy_failed}
use Rattle.fdb_core.specs.refinement.commit_proxy.Ties.{known_to, seen_as}
use Rattle.fdb_roles.proofs.Exports.{answers-fault, one-item, read-there}
use Rattle.fdb_core.proofs.refinement.commit_proxy.Failing.{proxy-was, seals-there}
use Rattle.fdb_core.proofs.refinement.commit_proxy.Sealing.{seals-busy, seals-unknown}
use Rattle.fdb_core.proofs.refinement.commit_proxy.Ties.{idle-seen}
use Rattle.fdb_core.proofs.refinement.RestoringLemmas.{flag-at, restored}
use Rattle.fdb_core.proofs.refinement.StepLemmas.{fails, unknown, works}
use Rattle.fdb_core.proofs.refinement.sequencer.Ticketing.{plan-refused, plan-given, seals-exhausted, seals-full}
use Rattle.fdb_core.proofs.cluster.Cluster.plan_seal.Goals as goal
use Rattle.fdb_core.proofs.cluster.Cluster.plan_seal.Goals.{After-is_idle}

-- there is no such proxy
pub returns-then-at-len : goal.returns-then-at-len
returns-then-at-len c =
    let k = c.args.self.now in
    inr (unknown k (step.Seal c.args.proxy c.args.advance) (seals-unknown k c.args.proxy c.args.advance (search rules)))

-- it has failed
pub returns-then-is_failed : goal.returns-then-is_failed
returns-then-is_failed c =
    let k = c.args.self.now in
    let role = c.index.result.now in
    let at = read-there k.commit_proxies.items c.args.proxy role (search rules) c.index.ensures in
    inr (fails k (step.Seal c.args.proxy c.args.advance)
    (flag-at proxy_failed k.commit_proxies.items c.args.proxy role at ∙ sym c.if-is_failed.ensures)
    (seals-there k c.requires c.args.proxy role at c.args.advance))

-- it is there, and works
module _ (c : After-is_idle) where
  there : slice_get c.args.self.now.commit_proxies.items c.args.proxy ≡ Some c.index-2.result.now
  there = read-there c.args.self.now.commit_proxies.items c.args.proxy c.index-2.result.now (search rules)
      c.index-2.ensures

  working : proxy_failed c.index-2.result.now ≡ false
  working = ap proxy_failed (sym (one-item c.args.self.now.commit_proxies.items c.args.proxy c.index.result.now
      c.index-2.result.now (search rules) c.index.ensures there)) ∙ sym c.if-is_failed.ensures

  was : slice_get c.requires.roles.commit_proxies.items c.args.proxy ≡ Some c.index-2.result.now
  was = proxy-was c.args.self.now c.requires c.args.proxy c.index-2.result.now there working

  unused : is_set (failures_of c.args.self.now).commit_proxies c.args.proxy ≡ false
  unused = flag-at proxy_failed c.args.self.now.commit_proxies.items c.args.proxy c.index-2.result.now there ∙ working

  seen : has_no_batch c.index-2.result.now.state.proxy.stage ≡ is_idle (seen_as c.index-2.result.now).stage
  seen = idle-seen c.args.self.now.config c.args.self.now.book.items
      (known_to c.args.self.now.sequencer c.args.proxy) c.index-2.result.now
      (c.requires.refines.commit_proxies.each c.args.proxy c.index-2.result.now was)

-- and has a batch in flight
pub returns-then-not-is_idle : goal.returns-then-not-is_idle
returns-then-not-is_idle c =
    let k = c.args.self.now in
    let before = (goal.at.returns-then-not-is_idle c).After-is_idle in
    inr (works k (step.Seal c.args.proxy c.args.advance) (Err WrongState) (unused before)
    (seals-busy k c.args.proxy c.args.advance c.index-2.result.now (there before) (sym (seen before) ∙ search rules)))

-- where there is no ticket, memory ran out, or there is no version left
pub returns-in_err-ticket : goal.returns-in_err-ticket
returns-in_err-ticket c =
    let k = c.args.self.now in
    let k0 = restored k c.requires in
    let role = c.index-2.result.now in
    let why = c.in_err-ticket.field-0.0 in
    let found = goal.at.returns-in_err-ticket c in
    let before = found.After-is_idle in
    let idle : is_idle (seen_as role).stage ≡ true = sym (seen before) ∙ search rules in
    let same : c.from_residual.result ≡ Err why = search rules in
    rw same
    (⊎_elim (λ lacks. inl lacks)
    (λ late. inr (works k (step.Seal c.args.proxy c.args.advance) (Err why) (unused before)
    (seals-exhausted k c.args.proxy c.args.advance role (there before) idle late.1
    ∙ ap (λ (refusal : Refusal). Err refusal) (sym late.0))))
    (plan-refused k0 c.requires.refines c.args.proxy c.args.advance role (was before) why _ c.in_err-ticket.ensures))

-- or there is no place left in the book
pub returns-then-self-len : goal.returns-then-self-len
returns-then-self-len c =
    let k = c.args.self.now in
    let role = c.index-2.result.now in
    let before = (goal.at.returns-then-self-len c).After-is_idle in
    let idle : is_idle (seen_as role).stage ≡ true = sym (seen before) ∙ search rules in
    let planned_it = plan-given (restored k c.requires) c.requires.refines c.args.proxy c.args.advance role (was before)
    c.in_ok-ticket.ticket c.in_ok-ticket.ensures in
    inr (works k (step.Seal c.args.proxy c.args.advance) (Err BookFull) (unused before)
    (seals-full k c.args.proxy c.args.advance role (there before) idle planned_it.0 (search rules)))

pub returns : goal.returns
returns c =
    let k = c.args.self.now in
    let before = (goal.at.returns c).After-is_idle in
    let given = answers-fault (plan_fault k.sequencer c.args.proxy c.args.advance) c.in_ok-ticket.ticket
    (λ (ticket : Ticket). ticket ≡ planned k.sequencer c.args.proxy c.args.advance) c.in_ok-ticket.ensures in
    record {
      role = c.index-2.result.now;
      there = there before;
      works = working before;
      idle = sym (seen before) ∙ search rules;
      given = given.0;
      ticket_is = given.1;
      room = search rules;
    }
