-- A step of the cluster, by the machine's transition.
use Rattle.std.specs.Prelude.{◌≡◌, ◌⊎◌, Result}
use Rattle.fdb_keys.specs.declared.refusal.Refusal.{Refusal}
use Rattle.fdb_core.specs.declared.cluster.Cluster.{Cluster}
use Rattle.fdb_machine.specs.declared.step.Answered.{Answered}
use Rattle.fdb_machine.specs.machine.AnyStep.{Step}
use Rattle.fdb_machine.specs.machine.Failures.{FailsIn, uses_failed, unless_failed}
use Rattle.fdb_machine.specs.machine.Machine.{Transition}
use Rattle.fdb_machine.specs.machine.Steps.{next, answer_of, after, ran_out, ByTest}
use Rattle.fdb_core.specs.refinement.Cluster.{machine_of}
use Rattle.fdb_core.specs.refinement.Restoring.{failures_of, Tied}

-- the step did what the transition says, and no role failed in it
pub record Stepped (old : Cluster) (result : Result Answered Refusal) (new : Cluster)
    (transition : Result Transition Refusal) : Type 0 where
  pub answer : result ≡ answer_of transition
  pub machine : machine_of new ≡ after (machine_of old) transition
  pub failed : failures_of new ≡ failures_of old
  pub tied : Tied new

-- what a step leaves in which memory ran out: all as it was, but that a role of it may have failed
pub record LeftOrFailed (old : Cluster) (step : Step) (new : Cluster) : Type 0 where
  pub machine : machine_of new ≡ machine_of old
  pub failed : (failures_of new ≡ failures_of old) ⊎ FailsIn step (failures_of old) (failures_of new)
  pub tied : Tied new

-- what the step comes to: what the machine does, unless the step uses a role that has failed
abbrev pub transition_of : Cluster → Step → Result Transition Refusal
transition_of k step = unless_failed (uses_failed (machine_of k) (failures_of k) step) (next (machine_of k) step)

-- a step: memory ran out in it, or it did what it comes to
abbrev pub Takes : Cluster → Step → Result Answered Refusal → Cluster → Type 0
Takes old step result new =
    ByTest (ran_out result) (LeftOrFailed old step new) (Stepped old result new (transition_of old step))
