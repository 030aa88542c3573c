use Rattle.std.proofs.Common.{◌≡◌, ◌∙◌, refl, sym, ap, subst, ◌<◌, length, List, Some, Err, slice_get, rules}
use Rattle.std.specs.Prelude.{⊤}
use Rattle.fdb_resolver.specs.declared.verdict.Verdicts.{Verdicts}
use Rattle.fdb_core.specs.declared.roles.resolver.ResolverRole.{ResolverRole}
use Rattle.fdb_machine.specs.declared.step.AnyStep.TheVariants as step
use Rattle.fdb_machine.specs.machine.Roles.{FromResolver}
use Rattle.fdb_core.specs.refinement.Cluster.{machine_of}
use Rattle.fdb_core.specs.refinement.Restoring.{SameResolver}
use Rattle.fdb_core.specs.refinement.commit_proxy.Ties.{known_to, seen_as}
use Rattle.fdb_machine.proofs.Exports.{unless}
use Rattle.fdb_roles.proofs.Exports.{map-at}
use Rattle.fdb_core.proofs.refinement.commit_proxy.Failing.{ComesTo, comes-to, proxy-goes_on, proxy-kept}
use Rattle.fdb_core.proofs.refinement.commit_proxy.Failing.{still-found, told-flag}
use Rattle.fdb_core.proofs.refinement.commit_proxy.Receiving.{verdicts-stale, verdicts-awaited, was-sent}
use Rattle.fdb_core.proofs.refinement.commit_proxy.Receiving.{receiver-there}
use Rattle.fdb_core.proofs.refinement.commit_proxy.Receiving.{receives-there, resolver-there}
use Rattle.fdb_core.proofs.refinement.RestoringLemmas.{restored, restores-like}
use Rattle.fdb_core.proofs.refinement.StepLemmas.{fails, kept, left, refused-restored, refuses, unknown}
use Rattle.fdb_core.proofs.cluster.Cluster.verdict.Goals as goal
use Rattle.fdb_core.proofs.cluster.Cluster.verdict.Goals.{After-verdict, After-index-2}

-- who didn't take the entry has nothing to tell
pub returns-in_err-at : goal.returns-in_err-at
returns-in_err-at c =
    let k = c.args.self.now in
    let verdict = step.Verdict c.args.entry c.args.resolver in
    let is = c.in_err-at.ensures in
    let same : c.from_residual.result ≡ Err c.in_err-at.field-0.0 = search rules in
    left k verdict c.from_residual.result _ c.in_err-at.field-0.0 same
    (unless _ _ (unknown k verdict is.refused ∙ ap (λ why. Err why) (sym is.why_is))) (kept k c.requires)

-- a proxy that has failed takes nothing
pub returns-then-is_failed : goal.returns-then-is_failed
returns-then-is_failed c =
    let k = c.args.self.now in
    let verdict = step.Verdict c.args.entry c.args.resolver in
    let role = c.index.result.now in
    let at = receiver-there k c.args.entry (FromResolver c.args.resolver) c.in_ok-at.at role c.in_ok-at.ensures
    c.index.ensures in
    refuses verdict
    (fails k verdict (told-flag k c.args.entry (FromResolver c.args.resolver) c.in_ok-at.at c.in_ok-at.ensures role at
    ∙ sym c.if-is_failed.ensures)
    (receives-there (machine_of k) c.args.entry (FromResolver c.args.resolver) c.in_ok-at.at (seen_as role)
    c.in_ok-at.ensures (map-at seen_as k.commit_proxies.items c.in_ok-at.at role at))) (kept k c.requires)

-- the resolver that sent the verdicts, as it was before it failed, if it did
module _ (c : After-index-2) where
  sender : slice_get c.args.self.now.resolvers.items c.args.resolver ≡ Some c.index-2.result.now
  sender = resolver-there c.args.self.now c.args.entry c.args.resolver c.in_ok-at.at c.index-2.result.now
      c.in_ok-at.ensures c.index-2.ensures

  sent-before : (role : ResolverRole) × (slice_get c.requires.roles.resolvers.items c.args.resolver ≡ Some role)
      × SameResolver c.index-2.result.now role
  sent-before = restores-like _ _ (λ x. (refl, refl)) c.args.self.now.resolvers.items
      c.requires.roles.resolvers.items c.requires.resolvers c.args.resolver c.index-2.result.now sender

pub sent_on-requires : goal.sent_on-requires
sent_on-requires c =
    let at = (goal.at.sent_on-requires c).After-index-2 in
    let before = sent-before at in
    subst (λ (sent : List Verdicts). c.args.entry < length sent) (sym before.2.1)
    (was-sent (restored c.args.self.now c.requires) c.requires.refines c.args.entry c.args.resolver c.in_ok-at.at
    (still-found c.args.self.now c.requires c.args.entry (FromResolver c.args.resolver)
    c.in_ok-at.at c.in_ok-at.ensures)
    before.0 before.1)

-- the proxy, which works
comes : (c : After-verdict) → ComesTo c.args.self.now c.requires c.args.entry (FromResolver c.args.resolver)
    c.in_ok-at.at c.index_mut-commit_proxy.result.now
comes c = comes-to c.args.self.now c.requires c.args.entry (FromResolver c.args.resolver) c.in_ok-at.at
    c.index.result.now c.index_mut-commit_proxy.result.now c.in_ok-at.ensures c.index.ensures
    c.index_mut-commit_proxy.ensures.value (sym c.if-is_failed.ensures)

-- the proxy didn't wait for it
pub returns-in_err-verdict : goal.returns-in_err-verdict
returns-in_err-verdict c =
    let k = c.args.self.now in
    let k0 = restored k c.requires in
    let verdict = step.Verdict c.args.entry c.args.resolver in
    let at = comes (goal.at.returns-in_err-verdict c).After-verdict in
    let found = (goal.at.returns-in_err-verdict c).After-index-2 in
    let before = sent-before found in
    let role = c.index_mut-commit_proxy.result.now in
    let why = c.in_err-verdict.field-0.0 in
    left k verdict c.from_residual-in_err-verdict.result _ why (search rules)
    (unless _ _ (refused-restored k verdict c.requires why at.unused
    (verdicts-stale k0 c.requires.refines c.args.entry c.args.resolver c.in_ok-at.at at.found role
    c.verdict.new.self at.was before.0 before.1 c.in_ok-verdicts.verdicts
    (subst (λ (sent : List Verdicts). slice_get sent c.args.entry ≡ Some c.in_ok-verdicts.verdicts) before.2.1
    c.in_ok-verdicts.ensures) ⊤ why
    (λ e tied said. c.in_err-verdict.ensures.answers k.config k.book.items (known_to k.sequencer c.in_ok-at.at) e tied
    said))))
    (proxy-kept k c.requires c.in_ok-at.at role c.verdict.new.self at.here at.works
    c.in_err-verdict.ensures.refused)

-- the proxy took it
pub returns : goal.returns
returns c =
    let k = c.args.self.now in
    let k0 = restored k c.requires in
    let at = comes (goal.at.returns c).After-verdict in
    let found = (goal.at.returns c).After-index-2 in
    let before = sent-before found in
    let role = c.index_mut-commit_proxy.result.now in
    proxy-goes_on k c.requires (step.Verdict c.args.entry c.args.resolver) c.in_ok-at.at role c.verdict.new.self _ _
    at.here at.works refl refl refl refl at.unused
    (verdicts-awaited k0 c.requires.refines c.args.entry c.args.resolver c.in_ok-at.at at.found role
    c.verdict.new.self at.was before.0 before.1 c.in_ok-verdicts.verdicts
    (subst (λ (sent : List Verdicts). slice_get sent c.args.entry ≡ Some c.in_ok-verdicts.verdicts) before.2.1
    c.in_ok-verdicts.ensures) ⊤ c.in_ok-verdict.field-0
    (λ e tied said. c.in_ok-verdict.ensures.answers k.config k.book.items (known_to k.sequencer c.in_ok-at.at) e tied
    said))
