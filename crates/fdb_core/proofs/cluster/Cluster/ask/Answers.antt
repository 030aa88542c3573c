use Rattle.std.proofs.Common.{◌≡◌, ◌∙◌, refl, sym, ap, ap₂, subst, ℕ, [], ◌∷◌, ◌++◌, List, map, Some, slice_get}
use Rattle.std.proofs.Common.{slice_set, rules}
use Rattle.std.specs.List.{AllByRecursion}
use Rattle.std.specs.Vec.{with_item}
use Rattle.fdb_proxy.specs.Askers.{Asker}
use Rattle.fdb_machine.specs.declared.step.AnyStep.TheVariants as step
use Rattle.fdb_machine.specs.machine.Sessions.{Sessions, Asking}
use Rattle.fdb_core.specs.refinement.Cluster.{machine_of, HasSeenNone, sessions_of}
use Rattle.fdb_core.specs.refinement.commit_proxy.Ties.{ReadsWithin}
use Rattle.fdb_roles.proofs.Exports.{all-push, map-at, map-set, read-there}
use Rattle.fdb_machine.proofs.Exports.{unless-lacked, open-put}
use Rattle.fdb_core.proofs.refinement.grv_proxy.Granting.{grv_proxies-set, sessions-push, asks-transition}
use Rattle.fdb_core.proofs.refinement.RestoringLemmas.{keeps-roles, restored}
use Rattle.fdb_core.proofs.refinement.StepLemmas.{accepted, left}
use Rattle.fdb_core.proofs.refinement.client.Sessions.{asks-nobody, refines-sessions}
use Rattle.fdb_core.proofs.cluster.Cluster.ask.Goals as goal

-- where memory runs out, nobody asks
pub returns-in_err-ask : goal.returns-in_err-ask
returns-in_err-ask c =
    let k = c.args.self.now in
    let old = c.index_mut-there.result.now in
    let there : slice_get k.grv_proxies.items c.args.proxy ≡ Some old =
    read-there k.grv_proxies.items c.args.proxy old (search rules) c.index_mut-there.ensures.value in
    left k (step.Ask c.args.session c.args.proxy) c.from_residual.result _ c.in_err-ask.field-0.0 (search rules)
    (unless-lacked c.in_err-ask.field-0.0 _ c.in_err-ask.ensures.answers)
    (asks-nobody k c.requires c.args.proxy old there _ c.ask.new.self c.ask.new.proxy refl c.in_err-ask.ensures.err.0
    c.in_err-ask.ensures.err.1)

pub returns : goal.returns
returns c =
    let k = c.args.self.now in
    let before = c.requires.refines in
    let old = c.index_mut-there.result.now in
    let there : slice_get k.grv_proxies.items c.args.proxy ≡ Some old =
    read-there k.grv_proxies.items c.args.proxy old (search rules) c.index_mut-there.ensures.value in
    let is = c.in_ok-ask.ensures.answers in
    let asked : c.ask.new.proxy ≡ old ++ (c.args.session, 0) ∷ [] = is.1 in
    accepted (step.Ask c.args.session c.args.proxy) (asks-transition (machine_of k) c.args.proxy (sessions_of old)
    (map-at sessions_of k.grv_proxies.items c.args.proxy old there) c.args.session (search rules)) refl
    (ap₂ (λ (sessions : Sessions) (askers : List (List ℕ)). record (machine_of k) {
      sessions = sessions;
      grv_proxies = askers;
    }) is.0
    (map-set sessions_of k.grv_proxies.items c.args.proxy c.ask.new.proxy
    ∙ ap (λ (askers : List Asker). slice_set (map sessions_of k.grv_proxies.items) c.args.proxy (sessions_of askers))
    asked
    ∙ ap (slice_set (map sessions_of k.grv_proxies.items) c.args.proxy) (sessions-push old c.args.session))) refl
    (keeps-roles k c.requires _ refl refl refl refl
    (refines-sessions (restored k c.requires) (with_item k.grv_proxies c.args.proxy c.ask.new.proxy) c.ask.new.self
    k.acknowledged before
    (grv_proxies-set k.config k.grv_proxies.items c.args.proxy c.ask.new.proxy before.grv_proxies
    (subst (AllByRecursion HasSeenNone) (sym asked)
    (all-push HasSeenNone old (c.args.session, 0) (before.grv_proxies.each c.args.proxy old there) refl)))
    (rw is.0
    (open-put (ReadsWithin k.sequencer.committed) k.sessions c.args.session Asking before.opened tt))))
