use Rattle.std.proofs.Common.{◌≡◌, ◌∙◌, refl, sym, ap, ◌<◌, length, false, Some, Err, slice_get, rules}
use Rattle.fdb_core.specs.declared.roles.commit_proxy.CommitProxyRole.{CommitProxyRole}
use Rattle.fdb_machine.specs.declared.step.AnyStep.TheVariants as step
use Rattle.fdb_machine.specs.machine.Machine.{is_set}
use Rattle.fdb_machine.specs.machine.Steps.{ran_out}
use Rattle.fdb_core.specs.refinement.Restoring.{failures_of, proxy_failed}
use Rattle.fdb_machine.proofs.Exports.{unless-map}
use Rattle.fdb_roles.proofs.Exports.{one-item, read-there}
use Rattle.fdb_core.proofs.refinement.commit_proxy.Deciding.{is-refused, in-pool, is-decided}
use Rattle.fdb_core.proofs.refinement.commit_proxy.Failing.{decides-there, proxy-goes_on, proxy-kept, proxy-was}
use Rattle.fdb_core.proofs.refinement.RestoringLemmas.{flag-at, restored}
use Rattle.fdb_core.proofs.refinement.StepLemmas.{fails, kept, left, refused-restored, refuses}
use Rattle.fdb_core.proofs.cluster.Cluster.decide.Goals as goal
use Rattle.fdb_core.proofs.cluster.Cluster.decide.Goals.{After-decide, In_ok-decision}

-- a proxy that has failed decides nothing
pub returns-then-is_failed : goal.returns-then-is_failed
returns-then-is_failed c =
    let k = c.args.self.now in
    let role = c.index.result.now in
    let at : slice_get k.commit_proxies.items c.args.proxy ≡ Some role =
    read-there k.commit_proxies.items c.args.proxy role (search rules) c.index.ensures in
    let decide = step.Decide c.args.proxy in
    refuses decide
    (fails k decide (flag-at proxy_failed k.commit_proxies.items c.args.proxy role at ∙ sym c.if-is_failed.ensures)
    (decides-there k c.requires c.args.proxy role at))
    (kept k c.requires)

-- the proxy, which works
module _ (c : After-decide) where
  here : slice_get c.args.self.now.commit_proxies.items c.args.proxy ≡ Some c.index_mut.result.now
  here = read-there c.args.self.now.commit_proxies.items c.args.proxy c.index_mut.result.now (search rules)
      c.index_mut.ensures.value

  working : proxy_failed c.index_mut.result.now ≡ false
  working =
      ap proxy_failed (sym (one-item c.args.self.now.commit_proxies.items c.args.proxy c.index.result.now
      c.index_mut.result.now (search rules) c.index.ensures here)) ∙ sym c.if-is_failed.ensures

  unused : is_set (failures_of c.args.self.now).commit_proxies c.args.proxy ≡ false
  unused = flag-at proxy_failed c.args.self.now.commit_proxies.items c.args.proxy c.index_mut.result.now here ∙ working

  was : slice_get c.requires.roles.commit_proxies.items c.args.proxy ≡ Some c.index_mut.result.now
  was = proxy-was c.args.self.now c.requires c.args.proxy c.index_mut.result.now here working

pub returns-in_err-decision : goal.returns-in_err-decision
returns-in_err-decision c =
    let k = c.args.self.now in
    let tied = c.requires in
    let decide = step.Decide c.args.proxy in
    let role = c.index_mut.result.now in
    let why = c.in_err-decision.field-0.0 in
    let at = (goal.at.returns-in_err-decision c).After-decide in
    left k decide c.from_residual.result _ why (search rules)
    (unless-map (ran_out (Err why)) _ _
    (λ same. refused-restored k decide tied why (unused at) same)
    (is-refused (restored k tied) tied.refines c.args.proxy role c.decide.new.self (was at) why
    c.in_err-decision.ensures.wrong c.in_err-decision.ensures.decides))
    (proxy-kept k tied c.args.proxy role c.decide.new.self (here at) (working at) c.in_err-decision.ensures.refused)

-- the number of the entry that it decided, and what stands in the pool for it
module _ (c : In_ok-decision)
    (at : slice_get c.args.self.now.commit_proxies.items c.args.proxy ≡ Some c.index_mut.result.now)
    (before : slice_get c.requires.roles.commit_proxies.items c.args.proxy ≡ Some c.index_mut.result.now) where
  number : c.index-2.result.now.entry ≡ c.index_mut.result.now.entry
  number = ap (λ (r : CommitProxyRole). r.entry)
      (one-item c.args.self.now.commit_proxies.items c.args.proxy c.index-2.result.now c.index_mut.result.now
      (search rules) c.index-2.ensures at)

  pooled : (c.index-2.result.now.entry < length c.args.self.now.messages.items)
      × (c.index-2.result.now.entry < length c.args.self.now.decided.items)
      × (c.index-2.result.now.entry < length c.args.self.now.conflicts.items)
  pooled = in-pool (restored c.args.self.now c.requires) c.requires.refines c.args.proxy c.index_mut.result.now
      c.decide.new.self before
      c.in_ok-decision.decision c.in_ok-decision.messages c.in_ok-decision.ensures.wrong
      c.in_ok-decision.ensures.decides c.index-2.result.now.entry number

pub index_mut-requires-2 : goal.index_mut-requires-2
index_mut-requires-2 c =
    let found = goal.at.index_mut-requires-2 c in
    let inside = (pooled found.In_ok-decision (here found.After-decide) (was found.After-decide)).0 in
    search rules

pub index_mut-requires-3 : goal.index_mut-requires-3
index_mut-requires-3 c =
    let found = goal.at.index_mut-requires-3 c in
    let inside = (pooled found.In_ok-decision (here found.After-decide) (was found.After-decide)).2 in
    search rules

pub index_mut-requires-4 : goal.index_mut-requires-4
index_mut-requires-4 c =
    let found = goal.at.index_mut-requires-4 c in
    let inside = (pooled found.In_ok-decision (here found.After-decide) (was found.After-decide)).1 in
    search rules

-- the batch is decided, and its messages and conflict sets are kept
pub returns : goal.returns
returns c =
    let k = c.args.self.now in
    let found = (goal.at.returns c).In_ok-decision in
    let at = (goal.at.returns c).After-decide in
    proxy-goes_on k c.requires (step.Decide c.args.proxy) c.args.proxy c.index_mut.result.now c.decide.new.self _ _
    (here at) (working at) refl refl refl refl (unused at)
    (is-decided (restored k c.requires) c.requires.refines c.args.proxy c.index_mut.result.now c.decide.new.self
    (was at)
    c.in_ok-decision.decision c.in_ok-decision.messages c.in_ok-decision.ensures.wrong c.in_ok-decision.ensures.decides
    c.index-2.result.now.entry (number found (here at) (was at)))
