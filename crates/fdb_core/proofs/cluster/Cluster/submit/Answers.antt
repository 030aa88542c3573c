use Rattle.std.proofs.Common.{◌≡◌, ◌∙◌, refl, sym, ap, subst, ⊎_elim, [], ◌∷◌, ◌++◌, List, Option, Some, Ok, Err}
use Rattle.std.proofs.Common.{false, map, slice_get, slice_set, rules}
use Rattle.fdb_keys.specs.declared.refusal.Refusal.TheVariants.{NoMemory}
use Rattle.fdb_txn.specs.declared.spot.Spot.TheVariants as spot
use Rattle.fdb_client.specs.declared.program.Transcript.{Transcript}
use Rattle.fdb_roles.specs.declared.placed.Placed.{Placed}
use Rattle.fdb_machine.specs.declared.step.Answered.TheVariants as answered
use Rattle.fdb_machine.specs.declared.step.AnyStep.TheVariants as step
use Rattle.fdb_machine.specs.invariant.Invariant.{Invariant}
use Rattle.fdb_machine.specs.machine.Failures.{uses_failed}
use Rattle.fdb_machine.specs.machine.Sessions.{Idle, Waiting}
use Rattle.fdb_machine.specs.machine.Steps.{ran_out}
use Rattle.fdb_core.specs.refinement.Cluster.{machine_of}
use Rattle.fdb_core.specs.refinement.Restoring.{failures_of, proxy_failed}
use Rattle.fdb_core.specs.refinement.commit_proxy.Ties.{known_to, ReadsWithin, seen_as}
use Rattle.fdb_core.specs.refinement.client.Submitting.{Submits}
use Rattle.fdb_machine.proofs.Exports.{unless-lacked, unless-map, unfinished, open-put}
use Rattle.fdb_roles.proofs.Exports.{map-at, one-item, read-there}
use Rattle.fdb_core.proofs.refinement.RestoringLemmas.{flag-at, restored, same-machine}
use Rattle.fdb_core.proofs.refinement.StepLemmas.{accepted, left, works}
use Rattle.fdb_core.proofs.refinement.commit_proxy.Failing.{proxy-goes_on, proxy-was}
use Rattle.fdb_core.proofs.refinement.client.Submitting.{nobody-comes, none-repeated, one-more, reads-within}
use Rattle.fdb_core.proofs.refinement.client.Submitting.{refines-submitted, room-failed, room-kept, room-seen}
use Rattle.fdb_core.proofs.refinement.client.Submitting.{room-tied}
use Rattle.fdb_core.proofs.refinement.client.Submitting.{submits-read_only, uses-working, waits}
use Rattle.fdb_core.proofs.cluster.Cluster.submit.Goals as goal
use Rattle.fdb_core.proofs.cluster.Cluster.submit.Goals.{After-index_mut-commit_proxy}

-- at a proxy that has failed
pub returns-then-is_failed : goal.returns-then-is_failed
returns-then-is_failed c =
    let proxies = c.args.self.now.commit_proxies.items in
    c.submit_past.ensures c.args.proxy c.index.result.now
    (read-there proxies c.args.proxy c.index.result.now (search rules) c.index.ensures) (sym c.if-is_failed.ensures)

pub returns-in_err-reserve : goal.returns-in_err-reserve
returns-in_err-reserve c =
    let k = c.args.self.now in
    left k (step.Submit c.args.session c.args.proxy) c.from_residual.result _ NoMemory (search rules) tt
    (room-kept k c.requires.tied k.sessions c.reserve.new.self refl c.reserve.ensures.items)

-- the commit proxy, which works
module _ (c : After-index_mut-commit_proxy) where
  there : slice_get c.args.self.now.commit_proxies.items c.args.proxy ≡ Some c.index_mut-commit_proxy.result.now
  there = read-there c.args.self.now.commit_proxies.items c.args.proxy c.index_mut-commit_proxy.result.now
      (search rules) c.index_mut-commit_proxy.ensures.value

  working : proxy_failed c.index_mut-commit_proxy.result.now ≡ false
  working =
      ap proxy_failed (sym (one-item c.args.self.now.commit_proxies.items c.args.proxy c.index.result.now
      c.index_mut-commit_proxy.result.now (search rules) c.index.ensures there)) ∙ sym c.if-is_failed.ensures

  unused : uses_failed (machine_of c.args.self.now) (failures_of c.args.self.now)
      (step.Submit c.args.session c.args.proxy) ≡ false
  unused =
      let k = c.args.self.now in
      uses-working (machine_of k) (failures_of k) c.args.session c.args.proxy
      (flag-at proxy_failed k.commit_proxies.items c.args.proxy c.index_mut-commit_proxy.result.now there ∙ working)

  was : slice_get c.requires.tied.roles.commit_proxies.items c.args.proxy ≡ Some c.index_mut-commit_proxy.result.now
  was = proxy-was c.args.self.now c.requires.tied c.args.proxy c.index_mut-commit_proxy.result.now there working

  sound : Invariant (machine_of (restored c.args.self.now c.requires.tied))
  sound = subst Invariant (sym (same-machine c.args.self.now c.requires.tied)) c.requires.named

pub submit-requires-clause-works : goal.submit-requires-clause-works
submit-requires-clause-works c = working (goal.at.submit-requires-clause-works c).After-index_mut-commit_proxy

pub submit-requires-clause-new : goal.submit-requires-clause-new
submit-requires-clause-new c =
    let at = (goal.at.submit-requires-clause-new c).After-index_mut-commit_proxy in
    none-repeated (restored c.args.self.now c.requires.tied) c.requires.tied.refines (sound at) c.args.session
    c.args.proxy c.index_mut-commit_proxy.result.now (was at)

-- who isn't finished isn't submitted, and stays open, also where memory ran out
pub returns-in_err-submit : goal.returns-in_err-submit
returns-in_err-submit c =
    let k = c.args.self.now in
    let submit = step.Submit c.args.session c.args.proxy in
    let role = c.index_mut-commit_proxy.result.now in
    let at = (goal.at.returns-in_err-submit c).After-index_mut-commit_proxy in
    let why = c.in_err-submit.field-0.0 in
    let is = c.in_err-submit.ensures.submits in
    left k submit c.from_residual-in_err-submit.result _ why (search rules)
    (unless-map (ran_out (Err why)) _ _ (works k submit (Err why) (unused at))
    (⊎_elim (unless-lacked why _)
    (unfinished (machine_of k) c.args.session c.args.proxy (seen_as role) why
    (map-at seen_as k.commit_proxies.items c.args.proxy role (there at))) is.0))
    (nobody-comes k c.requires.tied c.args.proxy role (there at) (working at) c.submit.new.self c.submit.new.sessions
    c.reserve.new.self c.in_err-submit.ensures.others is.2 is.3 is.1 c.reserve.ensures.items)

-- one that wrote something waits
pub returns-in-None : goal.returns-in-None
returns-in-None c =
    let k = c.args.self.now in
    let tied = c.requires.tied in
    let before = tied.refines in
    let role = c.index_mut-commit_proxy.result.now in
    let at = (goal.at.returns-in-None c).After-index_mut-commit_proxy in
    let is = subst (λ (given : Option Transcript). Submits c.args.session k.sessions role.state.proxy role.waiting
    (Ok given) c.submit.new.sessions c.submit.new.self.state.proxy c.submit.new.self.waiting) c.in-None.is
    c.in_ok-submit.ensures.submits in
    let taken = one-more k.config k.book.items (known_to k.sequencer c.args.proxy) role
    (before.commit_proxies.each c.args.proxy role (was at)) c.submit.new.self c.in_ok-submit.ensures.others is.0
    (reads-within (restored k tied) before (sound at) c.args.session c.args.proxy role (was at) is.0 is.1) is.5 is.6 in
    proxy-goes_on k tied (step.Submit c.args.session c.args.proxy) c.args.proxy role c.submit.new.self _ _ (there at)
    (working at) refl refl refl refl (unused at) (
      waits (restored k tied) before (sound at) c.args.session c.args.proxy role (was at) is.0 is.1 c.submit.new.self
          taken is.2 is.3
          ∙ (λ i. Ok (record {
            answer = answered.Done;
            next = record (machine_of (restored k tied)) {
              sessions = sym is.4 i;
              commit_proxies = map seen_as
                  (slice_set tied.roles.commit_proxies.items c.args.proxy c.submit.new.self);
              acknowledged = sym c.reserve.ensures.items i;
            };
          })),
      refines-submitted (restored k tied) before c.args.proxy role (was at) c.submit.new.self c.submit.new.sessions
          c.reserve.new.self taken.1
          (rw is.4 (open-put (ReadsWithin k.sequencer.committed) k.sessions c.args.session Waiting before.opened tt)),
    )

-- one that wrote nothing is acknowledged
pub returns-in-Some : goal.returns-in-Some
returns-in-Some c =
    let k = c.args.self.now in
    let tied = c.requires.tied in
    let submit = step.Submit c.args.session c.args.proxy in
    let role = c.index_mut-commit_proxy.result.now in
    let at = (goal.at.returns-in-Some c).After-index_mut-commit_proxy in
    let transcript = c.in-Some.transcript in
    let is = subst (λ (given : Option Transcript). Submits c.args.session k.sessions role.state.proxy role.waiting
    (Ok given) c.submit.new.sessions c.submit.new.self.state.proxy c.submit.new.self.waiting) c.in-Some.is
    c.in_ok-submit.ensures.submits in
    let others = c.in_ok-submit.ensures.others in
    let told = c.acknowledge.ensures.items
    ∙ ap (λ (all : List Placed). all ++ record
    { spot = spot.ReadOnly transcript.read_version; transcript = transcript } ∷ []) c.reserve.ensures.items in
    accepted submit
    (works k submit _ (unused at)
    (submits-read_only (machine_of k) c.args.session c.args.proxy (seen_as role) transcript
    (map-at seen_as k.commit_proxies.items c.args.proxy role (there at)) is.0 is.1)) c.acknowledge.ensures.answer
    (λ i. record (machine_of k) {
      sessions = is.2 i;
      commit_proxies = room-seen k tied c.args.proxy role (there at) (working at) c.submit.new.self
          c.submit.new.sessions c.acknowledge.new.acknowledged others is.3 is.4 i;
      acknowledged = told i;
    })
    (room-failed k tied c.args.proxy role (there at) (working at) c.submit.new.self c.submit.new.sessions
    c.acknowledge.new.acknowledged others is.3 is.4)
    (room-tied k tied c.args.proxy role (there at) (working at) c.submit.new.self c.submit.new.sessions
    c.acknowledge.new.acknowledged others is.3 is.4
    (rw is.2
    (open-put (ReadsWithin k.sequencer.committed) k.sessions c.args.session Idle tied.refines.opened tt)))
