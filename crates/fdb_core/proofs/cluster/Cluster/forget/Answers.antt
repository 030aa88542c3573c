use Rattle.std.proofs.Common.{◌≡◌, ◌∙◌, refl, sym, ap, ℕ, Bool, false, List, map, Some, slice_get, slice_set}
use Rattle.std.proofs.Common.{rules}
use Rattle.std.specs.Vec.{with_item}
use Rattle.fdb_storage.specs.Shards.{forget_fault, HasForgotten}
use Rattle.fdb_core.specs.declared.roles.shard.ShardRole.{ShardRole}
use Rattle.fdb_machine.specs.declared.step.Answered.TheVariants as answered
use Rattle.fdb_machine.specs.declared.step.AnyStep.TheVariants as step
use Rattle.fdb_machine.specs.machine.Roles.{ShardProgress}
use Rattle.fdb_core.specs.refinement.Cluster.{machine_of}
use Rattle.fdb_core.specs.refinement.Restoring.{failures_of, shard_failed}
use Rattle.fdb_core.specs.refinement.log.Ties.{progress_of}
use Rattle.fdb_machine.proofs.Exports.{unless}
use Rattle.fdb_roles.proofs.Exports.{given-fault, refused-fault, one-item, read-there}
use Rattle.fdb_core.proofs.refinement.shard.Failing.{shard-kept}
use Rattle.fdb_core.proofs.refinement.shard.Steps.{shard-put, counted, forget-refused, forget-accepted, forgot}
use Rattle.fdb_core.proofs.refinement.RestoringLemmas.{restored, restores-at, restores-set, flag-at, flags-same}
use Rattle.fdb_core.proofs.refinement.StepLemmas.{accepted-restored, left, refused-restored}
use Rattle.fdb_core.proofs.cluster.Cluster.forget.Goals as goal
use Rattle.fdb_core.proofs.cluster.Cluster.forget.Goals.{After-index_mut-role}

-- the shard, which works
module _ (c : After-index_mut-role) where
  at : slice_get c.args.self.now.shards.items c.args.shard ≡ Some c.index_mut-role.result.now
  at = read-there c.args.self.now.shards.items c.args.shard c.index_mut-role.result.now (search rules)
      c.index_mut-role.ensures.value

  working : shard_failed c.index_mut-role.result.now ≡ false
  working =
      let same : c.index.result.now ≡ c.index_mut-role.result.now =
      one-item c.args.self.now.shards.items c.args.shard c.index.result.now c.index_mut-role.result.now (search rules)
      c.index.ensures at in
      ap shard_failed (sym same) ∙ sym c.if-is_failed.ensures

  was : slice_get c.requires.roles.shards.items c.args.shard ≡ Some c.index_mut-role.result.now
  was = restores-at _ _ c.args.self.now.shards.items c.requires.roles.shards.items c.requires.shards c.args.shard
      c.index_mut-role.result.now at working

-- where the shard refuses, the machine does
pub returns-in_err-forget : goal.returns-in_err-forget
returns-in_err-forget c =
    let k = c.args.self.now in
    let tied = c.requires in
    let forget = step.Forget c.args.shard c.args.version in
    let role = c.index_mut-role.result.now in
    let found = (goal.at.returns-in_err-forget c).After-index_mut-role in
    let why = c.in_err-forget.field-0.0 in
    left k forget c.from_residual.result _ why (search rules)
    (unless _ _ (refused-restored k forget tied why
    (flag-at shard_failed k.shards.items c.args.shard role (at found) ∙ working found)
    (forget-refused (restored k tied) tied.refines c.args.shard role (was found) c.args.version why
    (refused-fault (forget_fault role.state c.args.version) why _ c.in_err-forget.ensures.answers))))
    (shard-kept k tied c.args.shard role c.forget.new.self (at found) (working found) c.in_err-forget.ensures.refused)

pub returns : goal.returns
returns c =
    let k = c.args.self.now in
    let tied = c.requires in
    let shard = c.args.shard in
    let role = c.index_mut-role.result.now in
    let found = (goal.at.returns c).After-index_mut-role in
    let given = given-fault (forget_fault role.state c.args.version) c.in_ok-forget.field-0
    (λ _. HasForgotten role.state c.args.version c.forget.new.self) c.in_ok-forget.ensures.answers in
    let forgotten : HasForgotten role.state c.args.version c.forget.new.self = given.1 in
    let later : ShardRole = record role { state = c.forget.new.self } in
    let k0 = restored k tied in
    accepted-restored k _ (step.Forget shard c.args.version) tied (record {
      roles = record tied.roles { shards = with_item tied.roles.shards shard later };
      commit_proxies = tied.commit_proxies;
      resolvers = tied.resolvers;
      logs = tied.logs;
      shards = restores-set _ _ k.shards.items tied.roles.shards.items tied.shards shard later;
      refines = shard-put k0 tied.refines shard role (was found) later
          (forgot k0 tied.refines shard role (was found) c.args.version given.0 c.forget.new.self forgotten)
          (λ log log_at. (tied.refines.logs.each_tag shard role (was found) log log_at).0) refl;
    }) (flag-at shard_failed k.shards.items shard role (at found) ∙ working found)
    (forget-accepted k0 tied.refines shard role (was found) c.args.version given.0)
    (ap (λ (floor : ℕ). answered.Version floor) (c.floor.ensures ∙ forgotten.floor))
    (ap (λ (shards : List ShardProgress). record (machine_of k0) { shards = shards })
    (counted k0 tied.refines shard role (was found) later
    ∙ ap (λ (floor : ℕ). slice_set (map progress_of tied.roles.shards.items) shard
    (record (progress_of role) { floor = floor })) forgotten.floor))
    (ap (λ (flags : List Bool). record (failures_of k) { shards = flags })
    (flags-same shard_failed k.shards.items shard role later (at found) forgotten.works))
