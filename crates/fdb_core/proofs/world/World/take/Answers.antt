use Rattle.std.proofs.Common.{◌≡◌, ◌∙◌, ap, refl, subst, inl, inr, None, Result, Ok, Err}
use Rattle.std.specs.Prelude.{⊤}
use Rattle.fdb_keys.specs.declared.refusal.Refusal.{Refusal}
use Rattle.fdb_keys.specs.declared.refusal.Refusal.TheVariants.{NoMemory}
use Rattle.fdb_proxy.specs.Configs.{config_fault}
use Rattle.fdb_core.specs.declared.cluster.Cluster.{Cluster}
use Rattle.fdb_machine.specs.declared.step.Answered.{Answered}
use Rattle.fdb_machine.specs.machine.AnyStep.{Step}
use Rattle.fdb_machine.specs.headline.Serving.{System}
use Rattle.fdb_machine.specs.invariant.Invariant.{Invariant}
use Rattle.fdb_machine.specs.machine.Machine.{Machine}
use Rattle.fdb_machine.specs.machine.Worlds.{IsStep}
use Rattle.fdb_core.specs.refinement.Cluster.{machine_of}
use Rattle.fdb_core.specs.refinement.Steps.{Takes}
use Rattle.fdb_core.specs.refinement.Systems.{state_of}
use Rattle.fdb_machine.proofs.Exports.{sound-after, config-after}
use Rattle.fdb_core.proofs.refinement.ServingLaws.{roles_keep}
use Rattle.fdb_core.proofs.refinement.StepLemmas.{left_or_stepped}
use Rattle.fdb_core.proofs.world.World.take.Goals as goal

-- a step of the parts is one of what the world shows
step-shown : (old : Cluster) (step : Step) (result : Result Answered Refusal) (new : Cluster)
    → Takes old step result new → IsStep (state_of old) step result (state_of new)
step-shown old step (Ok given) new stepped =
    inl (stepped.answer, λ j. record { machine = stepped.machine j; failed = stepped.failed j })
step-shown old step (Err NoMemory) new left = inr (refl, (left.machine, left.failed))
step-shown old step (Err why) new stepped =
    inl (stepped.answer, λ j. record { machine = stepped.machine j; failed = stepped.failed j })

-- the parts stay tied, the machine that they stand for is sound, and its configuration is the one that it had
pub invariant_of-self : goal.invariant_of-self
invariant_of-self c =
    let old = c.self.inside.cluster in
    let kept = left_or_stepped (λ (m : Machine). Invariant m × (config_fault m.config ≡ None)) old c.args.step.now
    c.step.result c.step.new.self c.step.ensures (c.self.invariant.1, c.self.invariant.2) (
      sound-after _ c.args.step.now c.self.invariant.1,
      ap config_fault (config-after (machine_of old) c.args.step.now) ∙ c.self.invariant.2,
    ) in (kept.0, kept.1.0, kept.1.1)

pub returns-clause-step : goal.returns-clause-step
returns-clause-step c =
    subst (λ (system : System). IsStep system.state c.args.step.now c.step.result (state_of c.step.new.self))
    c.self.view_is
    (step-shown c.self.inside.cluster c.args.step.now c.step.result c.step.new.self c.step.ensures)

-- the step is taken by a sound machine
pub step-requires-clause-named : goal.step-requires-clause-named
step-requires-clause-named c = c.self.invariant.1

pub returns-clause-roles : goal.returns-clause-roles
returns-clause-roles c =
    roles_keep c.step.new.self (left_or_stepped (λ _. ⊤) c.self.inside.cluster c.args.step.now c.step.result
    c.step.new.self c.step.ensures tt tt).0
