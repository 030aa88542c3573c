use Rattle.std.proofs.Common.{◌≡◌, ◌∙◌, refl, sym, ap, ap₂, subst, ℕ, List, map, fold, true, false, Some, slice_get}
use Rattle.std.proofs.Common.{slice_set}
use Rattle.std.proofs.Common.{arith, rules}
use Rattle.std.specs.List.{AllByRecursion, list_any}
use Rattle.std.specs.Vec.{with_item}
use Rattle.fdb_proxy.specs.Askers.{Asker, granted}
use Rattle.fdb_machine.specs.declared.step.Answered.TheVariants as answered
use Rattle.fdb_machine.specs.declared.step.AnyStep.TheVariants as step
use Rattle.fdb_machine.specs.machine.GrvProxySteps.{has_no_number}
use Rattle.fdb_machine.specs.machine.Sessions.{Sessions, serve}
use Rattle.fdb_core.specs.refinement.Cluster.{machine_of, HasSeenNone, sessions_of}
use Rattle.fdb_core.specs.refinement.commit_proxy.Ties.{ReadsWithin}
use Rattle.fdb_machine.specs.machine.Acting.{AreKnown}
use Rattle.fdb_roles.proofs.Exports.{map-at, map-set, one-item, read-there}
use Rattle.fdb_machine.proofs.Exports.{open-served}
use Rattle.fdb_core.proofs.refinement.grv_proxy.Granting.{grv_proxies-set, used_up-is, granted-is, served-is}
use Rattle.fdb_core.proofs.refinement.grv_proxy.Granting.{askers-known, granted-known, grants-exhausted}
use Rattle.fdb_core.proofs.refinement.grv_proxy.Granting.{grants-transition}
use Rattle.fdb_core.proofs.refinement.RestoringLemmas.{keeps-roles, restored}
use Rattle.fdb_core.proofs.refinement.StepLemmas.{accepted, kept, refuses}
use Rattle.fdb_core.proofs.refinement.client.Sessions.{refines-sessions}
use Rattle.fdb_core.proofs.cluster.Cluster.grant.Goals as goal
use Rattle.fdb_core.proofs.cluster.Cluster.grant.Goals.{After-are_used_up}

-- those who ask
there : (c : After-are_used_up) → slice_get c.args.self.now.grv_proxies.items c.args.proxy ≡ Some c.index.result.now
there c = read-there c.args.self.now.grv_proxies.items c.args.proxy c.index.result.now (search rules) c.index.ensures

-- where one of them has used up its numbers, the machine grants nothing
pub returns-then-are_used_up : goal.returns-then-are_used_up
returns-then-are_used_up c =
    let k = c.args.self.now in
    let old = c.index.result.now in
    let used_up : list_any (λ (asker : Asker). has_no_number k.sessions asker.0) c.askers.result.now ≡ true =
    sym c.if-are_used_up.ensures in
    refuses (step.Grant c.args.proxy) (grants-exhausted (machine_of k) c.args.proxy (sessions_of old)
    (map-at sessions_of k.grv_proxies.items c.args.proxy old
    (there (goal.at.returns-then-are_used_up c).After-are_used_up))
    (sym (used_up-is k.sessions old)
    ∙ ap (list_any (λ (asker : Asker). has_no_number k.sessions asker.0)) (sym c.askers.ensures) ∙ used_up))
    (kept k c.requires.tied)

never : false ≡ true → ⊥
never wrong = cc

-- each of them has an entry, so no memory is needed to serve them
pub returns-in_err-serve_all : goal.returns-in_err-serve_all
returns-in_err-serve_all c =
    let k = c.args.self.now in
    let committed = k.sequencer.committed in
    let old = c.index.result.now in
    let at = there (goal.at.returns-in_err-serve_all c).After-are_used_up in
    let same : c.index_mut.result.now ≡ old = one-item k.grv_proxies.items c.args.proxy c.index_mut.result.now old
    (search rules) c.index_mut.ensures.value at in
    let given : c.as_slice.result.now ≡ map (granted c.committed.result) old =
    c.as_slice.ensures ∙ c.grant-granted.ensures.granted ∙ ap (map (granted c.committed.result)) same in
    let known : AreKnown k.sessions c.as_slice.result.now =
    subst (AreKnown k.sessions) (sym given) (granted-known k.sessions c.committed.result old
    (askers-known (machine_of k) c.requires.named c.args.proxy (sessions_of old)
    (map-at sessions_of k.grv_proxies.items c.args.proxy old at) old refl)) in
    absurd (never (c.in_err-serve_all.ensures.known known))

pub returns : goal.returns
returns c =
    let k = c.args.self.now in
    let before = c.requires.tied.refines in
    let committed = k.sequencer.committed in
    let old = c.index.result.now in
    let at = there (goal.at.returns c).After-are_used_up in
    -- who has seen none
    let none_seen : AllByRecursion HasSeenNone old = before.grv_proxies.each c.args.proxy old at in
    let left : list_any (λ (asker : Asker). has_no_number k.sessions asker.0) c.askers.result.now ≡ false =
    sym c.if-are_used_up.ensures in
    -- is granted the committed version
    let same : c.index_mut.result.now ≡ old = one-item k.grv_proxies.items c.args.proxy c.index_mut.result.now old
    (search rules) c.index_mut.ensures.value at in
    let given : c.grant-granted.result ≡ map (granted committed) old =
    c.grant-granted.ensures.granted
    ∙ ap₂ (λ (version : ℕ) (askers : List Asker). map (granted version) askers) c.committed.ensures.value same in
    -- and served at it
    let served : c.serve_all.new.sessions ≡ fold (serve committed) k.sessions (sessions_of old) =
    c.in_ok-serve_all.ensures.ok
    ∙ ap (fold (λ (served : Sessions) (asker : Asker). serve asker.1 served asker.0) k.sessions)
    (c.as_slice.ensures ∙ given) ∙ served-is committed old k.sessions none_seen in
    accepted (step.Grant c.args.proxy) (grants-transition (machine_of k) c.args.proxy (sessions_of old)
    (map-at sessions_of k.grv_proxies.items c.args.proxy old at)
    (sym (used_up-is k.sessions old)
    ∙ ap (list_any (λ (asker : Asker). has_no_number k.sessions asker.0)) (sym c.askers.ensures) ∙ left))
    (ap (λ (all : List Asker). answered.Granted all) (given ∙ granted-is committed old none_seen))
    (ap₂ (λ (sessions : Sessions) (asked : List (List ℕ)). record (machine_of k) {
      sessions = sessions;
      grv_proxies = asked;
    }) served
    (map-set sessions_of k.grv_proxies.items c.args.proxy c.grant-granted.new.self
    ∙ ap (λ (askers : List Asker). slice_set (map sessions_of k.grv_proxies.items) c.args.proxy (sessions_of askers))
    c.grant-granted.ensures.left)) refl
    (keeps-roles k c.requires.tied _ refl refl refl refl
    (refines-sessions (restored k c.requires.tied) (with_item k.grv_proxies c.args.proxy c.grant-granted.new.self)
    c.serve_all.new.sessions k.acknowledged before
    (grv_proxies-set k.config k.grv_proxies.items c.args.proxy c.grant-granted.new.self before.grv_proxies
    (rw c.grant-granted.ensures.left tt))
    (rw served
    (open-served (ReadsWithin committed) committed (λ id. omega arith) (sessions_of old) k.sessions before.opened))))
