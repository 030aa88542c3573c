use Rattle.std.proofs.Common.{◌≡◌, ◌∙◌, ap, ◌<◌, ◌≤◌, false, length, arith}
use Rattle.fdb_keys.proofs.Exports.{all-weaken}
use Rattle.fdb_log.specs.Logs.{Log}
use Rattle.fdb_log.specs.Waiting.{Waiting}
use Rattle.fdb_log.proofs.FaultLemmas.{push_fault-none}
use Rattle.fdb_log.proofs.PushLemmas.{takes-written, is_log-push, has_taken-seen}
use Rattle.fdb_log.proofs.log_core.LogCore.push.Goals as goal

pub take-requires : goal.take-requires
take-requires c =
    let free = push_fault-none c.args.self.now c.args.message.now _ c.in_ok-check_push.ensures in
    let here : c.self.inside.last ≡ c.args.self.now.last = ap (λ (core : Log). core.last) c.self.view_is in
    let works : c.self.inside.is_failed ≡ false = ap (λ (core : Log). core.is_failed) c.self.view_is ∙ free.0 in
    record {
      number = c.self.invariant.is_log.number;
      few = c.self.invariant.is_log.few_tags;
      queued = ap length c.deref_mut.ensures.value ∙ c.self.invariant.is_log.queued;
      placed = c.self.invariant.placed works;
      later =
          all-weaken (λ (one : Waiting). one.0.0 ≤ c.self.inside.last)
          (λ (one : Waiting). one.0.0 < c.args.message.now.version)
          (λ one within. omega (arith, free.1)) c.self.inside.held.waiting (c.self.invariant.is_log.taken works);
    }

pub invariant_of-self : goal.invariant_of-self
invariant_of-self c =
    let free = push_fault-none c.args.self.now c.args.message.now _ c.in_ok-check_push.ensures in
    let here : c.self.inside.last ≡ c.args.self.now.last = ap (λ (core : Log). core.last) c.self.view_is in
    let works : c.self.inside.is_failed ≡ false = ap (λ (core : Log). core.is_failed) c.self.view_is ∙ free.0 in
    record {
      is_log =
          is_log-push _ c.args.message.now _ c.take.new.held.waiting
          (takes-written _ c.args.message.now c.self.inside.queues.len c.take.new.queues c.deref_mut.result.now
          c.take.new.held.waiting c.self.invariant.is_log works (omega (arith, free.1)) c.deref_mut.ensures.value
          c.take.auto.queues c.self.inside.queues.ok.0 c.in-Ok.ensures.kept c.in-Ok.ensures.waiting
          c.in-Ok.ensures.elsewhere);
      placed = λ _. c.in-Ok.ensures.placed;
      listed = λ _. c.in-Ok.ensures.listed _ c.self.inside.last (omega (arith, free.1)) (c.self.invariant.listed works);
    }

pub returns-in-Ok-clause-taken : goal.returns-in-Ok-clause-taken
returns-in-Ok-clause-taken c =
    let free = push_fault-none c.args.self.now c.args.message.now _ c.in_ok-check_push.ensures in
    let here : c.self.inside.last ≡ c.args.self.now.last = ap (λ (core : Log). core.last) c.self.view_is in
    has_taken-seen _ c.args.self.now c.args.message.now _ c.take.new.held.waiting c.self.view_is
    (takes-written _ c.args.message.now c.self.inside.queues.len c.take.new.queues c.deref_mut.result.now
    c.take.new.held.waiting
    c.self.invariant.is_log (ap (λ (core : Log). core.is_failed) c.self.view_is ∙ free.0) (omega (arith, free.1))
    c.deref_mut.ensures.value c.take.auto.queues c.self.inside.queues.ok.0 c.in-Ok.ensures.kept c.in-Ok.ensures.waiting
    c.in-Ok.ensures.elsewhere)
