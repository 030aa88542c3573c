use Rattle.std.proofs.Common.{◌≡◌, ◌∙◌, sym, ap, subst, None, rules}
use Rattle.fdb_proxy.specs.Configs.{config_fault}
use Rattle.fdb_machine.specs.invariant.Invariant.{Invariant}
use Rattle.fdb_machine.specs.machine.Failures.{State}
use Rattle.fdb_core.proofs.refinement.ServingLaws.{roles_keep}
use Rattle.fdb_machine.proofs.Exports.{sound-start}
use Rattle.fdb_core.proofs.world.World.new.Goals as goal

pub returns-clause-roles : goal.returns-clause-roles
returns-clause-roles c = roles_keep _ c.in_ok-cluster.ensures.tied

-- the first machine is sound
pub invariant_of-result : goal.invariant_of-result
invariant_of-result c = (
  c.in_ok-cluster.ensures.tied,
  subst (λ (state : State). Invariant state.machine) (sym c.in_ok-cluster.ensures.state) (sound-start c.args.config),
  let legal : config_fault c.args.config ≡ None = search (c.in_ok-check, rules) in
      ap (λ (state : State). config_fault state.machine.config) c.in_ok-cluster.ensures.state ∙ legal,
)
