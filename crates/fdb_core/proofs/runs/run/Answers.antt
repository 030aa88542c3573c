use Rattle.std.proofs.Common.{◌≡◌, ◌∙◌, sym, ap, ◌+◌, ◌<◌, ◌≤◌, length, [], ◌∷◌, ◌++◌, take, List, subst, rules}
use Rattle.std.proofs.lemmas.List.{take_all, take_more}
use Rattle.fdb_machine.specs.machine.AnyStep.{Step}
use Rattle.fdb_machine.specs.headline.Traces.{IsTraceOf}
use Rattle.fdb_proxy.specs.Configs.{config_fault}
use Rattle.fdb_machine.specs.machine.Worlds.{first_state}
use Rattle.fdb_roles.proofs.Exports.{answers-fault}
use Rattle.fdb_machine.proofs.Exports.{strictly_serializable, run-push}
use Rattle.fdb_core.proofs.runs.run.Goals as goal

pub loop-step-init : goal.loop-step-init
loop-step-init c =
    let started = answers-fault (config_fault c.args.config) c.in_ok-world.world _ c.in_ok-world.ensures.started in
    record {
      legal = started.0;
      stands = rw c.new-answers.ensures started.1;
      keep = c.in_ok-world.ensures.roles;
    }

pub loop-step-preserved : goal.loop-step-preserved
loop-step-preserved c =
    let steps = c.args.steps.now in
    let step = c.step-item.result in
    let within : c.loop-step.step-index < length steps = search rules in
    let front : take (c.loop-step.step-index + 1) steps ≡ take c.loop-step.step-index steps ++ step ∷ [] =
    take_more steps c.loop-step.step-index step within
    ∙ ap (λ (s : Step). take c.loop-step.step-index steps ++ s ∷ []) (sym c.step-item.is) in
    record {
      legal = c.loop-step.invariant.legal;
      stands = rw (front, c.in_ok-push.ensures.ok)
          (run-push (first_state c.args.config) c.loop-step.world.state c.take-answer.new.self.state
          (take c.loop-step.step-index steps) c.loop-step.answers step c.take-answer.result
          c.loop-step.invariant.stands c.take-answer.ensures.step);
      keep = c.take-answer.ensures.roles;
    }

pub returns : goal.returns
returns c =
    let steps = c.args.steps.now in
    let after : length steps ≤ c.loop-step.step-index = search rules in
    let whole : take c.loop-step.step-index steps ≡ steps = take_all c.loop-step.step-index steps after in
    rw c.loop-step.invariant.legal (
      strictly_serializable c.args.config steps c.loop-step.answers c.loop-step.world
          (subst (λ (taken : List Step). IsTraceOf c.args.config taken c.loop-step.answers c.loop-step.world.state)
          whole c.loop-step.invariant.stands)
          c.loop-step.invariant.keep,
      c.loop-step.invariant.keep,
    )
