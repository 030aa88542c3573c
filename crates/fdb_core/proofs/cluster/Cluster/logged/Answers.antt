use Rattle.std.proofs.Common.{◌≡◌, ◌∙◌, refl, sym, ap, Err, rules}
use Rattle.std.specs.Prelude.{⊤}
use Rattle.fdb_machine.specs.declared.step.AnyStep.TheVariants as step
use Rattle.fdb_machine.specs.machine.Roles.{FromLog}
use Rattle.fdb_core.specs.refinement.Cluster.{machine_of}
use Rattle.fdb_core.specs.refinement.commit_proxy.Ties.{known_to, seen_as}
use Rattle.fdb_machine.proofs.Exports.{unless}
use Rattle.fdb_roles.proofs.Exports.{map-at}
use Rattle.fdb_core.proofs.refinement.commit_proxy.Failing.{ComesTo, comes-to, proxy-goes_on, proxy-kept, told-flag}
use Rattle.fdb_core.proofs.refinement.commit_proxy.Receiving.{comes-stale, comes-awaited, log-exists, receiver-there}
use Rattle.fdb_core.proofs.refinement.commit_proxy.Receiving.{receives-there}
use Rattle.fdb_core.proofs.refinement.RestoringLemmas.{restored}
use Rattle.fdb_core.proofs.refinement.StepLemmas.{fails, kept, left, refused-restored, refuses, unknown}
use Rattle.fdb_core.proofs.cluster.Cluster.logged.Goals as goal
use Rattle.fdb_core.proofs.cluster.Cluster.logged.Goals.{After-logged}

-- who didn't take the entry has nothing to tell
pub returns-in_err-at : goal.returns-in_err-at
returns-in_err-at c =
    let k = c.args.self.now in
    let logged = step.Logged c.args.entry c.args.log in
    let is = c.in_err-at.ensures in
    let same : c.from_residual.result ≡ Err c.in_err-at.field-0.0 = search rules in
    left k logged c.from_residual.result _ c.in_err-at.field-0.0 same
    (unless _ _ (unknown k logged is.refused ∙ ap (λ why. Err why) (sym is.why_is))) (kept k c.requires)

-- a proxy that has failed takes nothing
pub returns-then-is_failed : goal.returns-then-is_failed
returns-then-is_failed c =
    let k = c.args.self.now in
    let logged = step.Logged c.args.entry c.args.log in
    let role = c.index.result.now in
    let at = receiver-there k c.args.entry (FromLog c.args.log) c.in_ok-at.at role c.in_ok-at.ensures
    c.index.ensures in
    refuses logged
    (fails k logged (told-flag k c.args.entry (FromLog c.args.log) c.in_ok-at.at c.in_ok-at.ensures role at
    ∙ sym c.if-is_failed.ensures)
    (receives-there (machine_of k) c.args.entry (FromLog c.args.log) c.in_ok-at.at (seen_as role)
    c.in_ok-at.ensures (map-at seen_as k.commit_proxies.items c.in_ok-at.at role at))) (kept k c.requires)

-- the proxy, which works
comes : (c : After-logged) → ComesTo c.args.self.now c.requires c.args.entry (FromLog c.args.log) c.in_ok-at.at
    c.index_mut-commit_proxy.result.now
comes c = comes-to c.args.self.now c.requires c.args.entry (FromLog c.args.log) c.in_ok-at.at c.index.result.now
    c.index_mut-commit_proxy.result.now c.in_ok-at.ensures c.index.ensures c.index_mut-commit_proxy.ensures.value
    (sym c.if-is_failed.ensures)

-- the proxy didn't wait for it
pub returns-in_err-logged : goal.returns-in_err-logged
returns-in_err-logged c =
    let k = c.args.self.now in
    let k0 = restored k c.requires in
    let logged = step.Logged c.args.entry c.args.log in
    let at = comes (goal.at.returns-in_err-logged c).After-logged in
    let role = c.index_mut-commit_proxy.result.now in
    let why = c.in_err-logged.field-0.0 in
    left k logged c.from_residual-in_err-logged.result _ why (search rules)
    (unless _ _ (refused-restored k logged c.requires why at.unused
    (comes-stale k0 c.requires.refines c.args.entry (FromLog c.args.log) c.in_ok-at.at at.found role
    c.logged.new.self at.was ⊤ why
    (c.in_err-logged.ensures.answers k.config k.book.items (known_to k.sequencer c.in_ok-at.at)
    (c.requires.refines.commit_proxies.each c.in_ok-at.at role at.was)
    (log-exists k0 c.requires.refines c.args.entry c.args.log c.in_ok-at.at at.found)))))
    (proxy-kept k c.requires c.in_ok-at.at role c.logged.new.self at.here at.works
    c.in_err-logged.ensures.refused)

-- the proxy took it
pub returns : goal.returns
returns c =
    let k = c.args.self.now in
    let k0 = restored k c.requires in
    let at = comes (goal.at.returns c).After-logged in
    let role = c.index_mut-commit_proxy.result.now in
    proxy-goes_on k c.requires (step.Logged c.args.entry c.args.log) c.in_ok-at.at role c.logged.new.self _ _
    at.here at.works refl refl refl refl at.unused
    (comes-awaited k0 c.requires.refines c.args.entry (FromLog c.args.log) c.in_ok-at.at at.found role
    c.logged.new.self at.was ⊤ c.in_ok-logged.field-0
    (c.in_ok-logged.ensures.answers k.config k.book.items (known_to k.sequencer c.in_ok-at.at)
    (c.requires.refines.commit_proxies.each c.in_ok-at.at role at.was)
    (log-exists k0 c.requires.refines c.args.entry c.args.log c.in_ok-at.at at.found)))
