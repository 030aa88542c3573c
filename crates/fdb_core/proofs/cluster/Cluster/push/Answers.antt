use Rattle.std.proofs.Common.{◌≡◌, ◌∙◌, refl, sym, ap, subst, ◌<◌, get_or, length, ℕ, Bool, List, Option, Some}
use Rattle.std.proofs.Common.{slice_get}
use Rattle.std.proofs.Common.{◌+◌, false, Err, arith, rules}
use Rattle.std.specs.Vec.{with_item}
use Rattle.fdb_log.specs.declared.message.LogMsg.{LogMsg}
use Rattle.fdb_log.specs.Logs.{HasFailed, push_fault}
use Rattle.fdb_core.specs.declared.roles.log.LogRole.{LogRole}
use Rattle.fdb_machine.specs.declared.step.AnyStep.TheVariants as step
use Rattle.fdb_keys.specs.declared.refusal.Refusal.TheVariants.{Unknown}
use Rattle.fdb_machine.specs.machine.RoleSteps.{pushes}
use Rattle.fdb_core.specs.refinement.Cluster.{machine_of}
use Rattle.fdb_core.specs.refinement.Restoring.{failures_of, log_failed}
use Rattle.fdb_roles.proofs.Exports.{within-item, answers-fault, map-at, one-item, read-there}
use Rattle.fdb_machine.proofs.Exports.{unless-fault, left-or-failed}
use Rattle.fdb_core.proofs.refinement.log.Failing.{log-kept, log-left}
use Rattle.fdb_core.proofs.refinement.log.Pushing.{Pushing, pushing, enough, undecided, refused as push-refused}
use Rattle.fdb_core.proofs.refinement.log.Pushing.{accepted as goes_on, counted, room, tied, message-rises}
use Rattle.fdb_core.proofs.refinement.log.Pushing.{is-decided, log-works, pushes-there}
use Rattle.fdb_core.proofs.refinement.RestoringLemmas.{restored, restores-at, restores-set, flag-at, flags-same}
use Rattle.fdb_core.proofs.refinement.RestoringLemmas.{restores-like, same-machine}
use Rattle.fdb_core.proofs.refinement.StepLemmas.{accepted-restored, fails, kept, refuses, refused-restored}
use Rattle.fdb_core.proofs.refinement.StepLemmas.{refused-unless, unknown}
use Rattle.fdb_core.proofs.cluster.Cluster.push.Goals as goal
use Rattle.fdb_core.proofs.cluster.Cluster.push.Goals.{After-as_slice}

-- an entry that isn't decided has no message
pub returns-in_default : goal.returns-in_default
returns-in_default c =
    let k = c.args.self.now in
    let push = step.Push c.args.entry c.args.log in
    let tied = c.requires in
    let inside : c.args.entry < length k.messages.items = search rules in
    let role = within-item k.logs.items c.args.log (search rules) in
    let was = restores-like _ _ (λ x. refl) k.logs.items tied.roles.logs.items tied.logs c.args.log role.0 role.1 in
    let entry = within-item k.book.items c.args.entry
    (subst (λ (n : ℕ). c.args.entry < n) tied.refines.book.each_pooled inside) in
    refuses push (unknown k push (subst (λ m. pushes m c.args.entry c.args.log ≡ Err Unknown) (same-machine k tied)
    (undecided (restored k tied) tied.refines c.args.entry c.args.log entry.0 was.0 entry.1 was.1
    (read-there k.messages.items c.args.entry c.index.result.now inside c.index.ensures
    ∙ ap (λ (it : Option (List LogMsg)). Some it) c.in_default.is)))) (kept k tied)

-- a log that has failed takes nothing
pub returns-then-is_failed : goal.returns-then-is_failed
returns-then-is_failed c =
    let k = c.args.self.now in
    let push = step.Push c.args.entry c.args.log in
    let tied = c.requires in
    let inside : c.args.entry < length k.messages.items = search rules in
    let role = c.index-2.result.now in
    let at : slice_get k.logs.items c.args.log ≡ Some role =
    read-there k.logs.items c.args.log role (search rules) c.index-2.ensures in
    let entry = within-item k.book.items c.args.entry
    (subst (λ (n : ℕ). c.args.entry < n) tied.refines.book.each_pooled inside) in
    refuses push
    (fails k push (flag-at log_failed k.logs.items c.args.log role at ∙ sym c.if-is_failed.ensures)
    (pushes-there (machine_of k) c.args.entry c.args.log entry.0 role.taken entry.1
    (map-at (λ (of : LogRole). of.taken) k.logs.items c.args.log role at)
    (is-decided (restored k tied) tied.refines c.args.entry entry.0 entry.1 c.in-Some.messages
    (read-there k.messages.items c.args.entry c.index.result.now inside c.index.ensures
    ∙ ap (λ (it : Option (List LogMsg)). Some it) c.in-Some.is)))) (kept k tied)

-- the log, which works
module _ (c : After-as_slice) where
  here : slice_get c.args.self.now.logs.items c.args.log ≡ Some c.index_mut-role.result.now
  here = read-there c.args.self.now.logs.items c.args.log c.index_mut-role.result.now (search rules)
      c.index_mut-role.ensures.value

  working : c.index_mut-role.result.now.state.is_failed ≡ false
  working =
      let k = c.args.self.now in
      let same : c.index-2.result.now ≡ c.index_mut-role.result.now =
      one-item k.logs.items c.args.log c.index-2.result.now c.index_mut-role.result.now (search rules)
      c.index-2.ensures here in
      ap (λ (it : LogRole). it.state.is_failed) (sym same) ∙ sym c.if-is_failed.ensures

  was : slice_get c.requires.roles.logs.items c.args.log ≡ Some c.index_mut-role.result.now
  was = restores-at _ _ c.args.self.now.logs.items c.requires.roles.logs.items c.requires.logs c.args.log
      c.index_mut-role.result.now here working

  -- the entry, the log and the message
  found : (message : LogMsg) → message ≡ get_or c.as_slice.result.now c.args.log message
      → Pushing (restored c.args.self.now c.requires) c.args.entry c.args.log c.index_mut-role.result.now message
  found message is =
      let k = c.args.self.now in
      let inside : c.args.entry < length k.messages.items = search rules in
      pushing (restored k c.requires) c.requires.refines c.args.entry c.args.log inside c.index.result.now
      c.index_mut-role.result.now c.index.ensures was c.as_slice.result.now
      (c.in-Some.is ∙ ap (λ (it : List LogMsg). Some it) (sym c.as_slice.ensures)) message is

pub bounds-as_slice-of : goal.bounds-as_slice-of
bounds-as_slice-of c =
    let k = c.args.self.now in
    let at = (goal.at.bounds-as_slice-of c).After-as_slice in
    let inside : c.args.entry < length k.messages.items = search rules in
    enough (restored k c.requires) c.requires.refines c.args.entry c.args.log inside c.index.result.now
    c.index_mut-role.result.now c.index.ensures (was at) c.as_slice.result.now
    (c.in-Some.is ∙ ap (λ (it : List LogMsg). Some it) (sym c.as_slice.ensures))

pub push-requires : goal.push-requires
push-requires c =
    let message = c.index-as_slice-of.result in
    let p = found (goal.at.push-requires c).After-as_slice message c.index-as_slice-of.is in
    message-rises (restored c.args.self.now c.requires) c.requires.refines c.args.entry c.args.log p.entry
    c.index_mut-role.result.now p.there p.at p.messages p.pooled message p.message_there

-- where the log refuses, so does the machine, and the log stays; or it lacked memory, and has failed
pub returns-in_err-push : goal.returns-in_err-push
returns-in_err-push c =
    let k = c.args.self.now in
    let tied = c.requires in
    let push = step.Push c.args.entry c.args.log in
    let role = c.index_mut-role.result.now in
    let message = c.index-as_slice-of.result in
    let why = c.in_err-push.field-0.0 in
    let at = (goal.at.returns-in_err-push c).After-as_slice in
    let p = found at message c.index-as_slice-of.is in
    let left = log-left k tied c.args.entry c.args.log p.entry role c.push.new.self p.there (here at) (working at)
    (left-or-failed (push_fault role.state message) role.state c.push.new.self
    (HasFailed role.state c.push.new.self) c.in_err-push.ensures.refused c.in_err-push.ensures.failed) in
    refused-unless k push c.from_residual.result _ why (search rules)
    (unless-fault (push_fault role.state message) why _ _ c.in_err-push.ensures.answers (λ fault. refuses push
    (refused-restored k push tied why (flag-at log_failed k.logs.items c.args.log role (here at) ∙ working at)
    (push-refused (restored k tied) tied.refines c.args.entry c.args.log p.entry role p.there p.at p.messages p.pooled
    message p.message_there why fault))
    (log-kept k tied c.args.entry c.args.log p.entry role c.push.new.self p.there (here at) (working at)
    (c.in_err-push.ensures.refused (rw fault refl))))) left

pub overflow_add-role : goal.overflow_add-role
overflow_add-role c =
    let message = c.index-as_slice-of.result in
    let p = found (goal.at.overflow_add-role c).After-as_slice message c.index-as_slice-of.is in
    let below = room (restored c.args.self.now c.requires) c.requires.refines c.args.entry c.args.log p.entry
    c.index_mut-role.result.now p.there p.at p.messages p.pooled message p.message_there
    (answers-fault _ c.in_ok-push.field-0 _ c.in_ok-push.ensures.answers).0 in
    omega (arith, below)

-- where the log takes it
pub returns : goal.returns
returns c =
    let k = c.args.self.now in
    let tied-before = c.requires in
    let role = c.index_mut-role.result.now in
    let log = c.args.log in
    let message = c.index-as_slice-of.result in
    let at = (goal.at.returns c).After-as_slice in
    let p = found at message c.index-as_slice-of.is in
    let faultless = (answers-fault (push_fault role.state message) c.in_ok-push.field-0 _
    c.in_ok-push.ensures.answers).0 in
    let k0 = restored k tied-before in
    let later : LogRole = record { state = c.push.new.self; taken = role.taken + 1 } in
    let refines = tied k0 tied-before.refines c.args.entry log p.entry role p.there p.at p.messages p.pooled message
    p.message_there faultless c.push.new.self c.in_ok-push.ensures.taken in
    accepted-restored k _ (step.Push c.args.entry log) tied-before (record {
      roles = record tied-before.roles { logs = with_item tied-before.roles.logs log later };
      commit_proxies = tied-before.commit_proxies;
      resolvers = tied-before.resolvers;
      logs = restores-set _ _ k.logs.items tied-before.roles.logs.items tied-before.logs log later;
      shards = tied-before.shards;
      refines = refines;
    }) (flag-at log_failed k.logs.items log role (here at) ∙ working at)
    (goes_on k0 tied-before.refines c.args.entry log p.entry role p.there p.at p.messages p.pooled message
    p.message_there faultless) refl
    (ap (λ (taken : List ℕ). record (machine_of k0) { logs = taken })
    (counted k0 tied-before.refines c.args.entry log p.entry role p.there p.at p.messages p.pooled message
    p.message_there faultless c.push.new.self c.in_ok-push.ensures.taken))
    (ap (λ (flags : List Bool). record (failures_of k) { logs = flags })
    (flags-same log_failed k.logs.items log role later (here at)
    (log-works k0 log role later p.at refines ∙ sym (working at))))
