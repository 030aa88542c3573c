-- A shard in which memory ran out.
use Rattle.std.proofs.Common.{◌≡◌, ◌∙◌, ap, inl, inr, ⊎_elim, ◌⊎◌, ℕ, Bool, false, List, map, Some, slice_get}
use Rattle.std.proofs.Common.{slice_set}
use Rattle.std.specs.Vec.{with_item}
use Rattle.fdb_storage.specs.Shards.{Shard, HasFailed}
use Rattle.fdb_core.specs.declared.cluster.Cluster.{Cluster}
use Rattle.fdb_core.specs.declared.roles.shard.ShardRole.{ShardRole}
use Rattle.fdb_machine.specs.declared.step.AnyStep.TheVariants as step
use Rattle.fdb_machine.specs.machine.Roles.{ShardProgress}
use Rattle.fdb_core.specs.refinement.Cluster.{machine_of}
use Rattle.fdb_core.specs.refinement.Restoring.{Tied, failures_of, shard_failed}
use Rattle.fdb_core.specs.refinement.Steps.{LeftOrFailed}
use Rattle.fdb_core.specs.refinement.log.Ties.{progress_of}
use Rattle.fdb_roles.proofs.Exports.{map-set}
use Rattle.fdb_core.proofs.refinement.shard.Steps.{shard-same}
use Rattle.fdb_core.proofs.refinement.StepLemmas.{IsKept}
use Rattle.fdb_core.proofs.refinement.RestoringLemmas.{restored, restores-at, restores-set, restores-failed, flags-same}

-- one whose state is as it was leaves the world as it was
pub shard-kept : (k : Cluster) (tied : Tied k) (s : ℕ) (role : ShardRole) (state : Shard)
    → slice_get k.shards.items s ≡ Some role → shard_failed role ≡ false → state ≡ role.state
    → IsKept k (record k { shards = with_item k.shards s (record role { state = state }) })
shard-kept k tied s role state at works same = record {
  machine = ap (λ (shards : List ShardProgress). record (machine_of k) { shards = shards })
      (flags-same progress_of k.shards.items s role later at
      (ap (λ (it : Shard). record (progress_of role) { floor = it.floor }) same));
  failed = ap (λ (flags : List Bool). record (failures_of k) { shards = flags })
      (flags-same shard_failed k.shards.items s role later at (ap (λ (it : Shard). it.is_failed) same));
  tied = record {
    roles = record tied.roles { shards = with_item tied.roles.shards s later };
    commit_proxies = tied.commit_proxies;
    resolvers = tied.resolvers;
    logs = tied.logs;
    shards = restores-set _ _ k.shards.items tied.roles.shards.items tied.shards s later;
    refines = (shard-same (restored k tied) tied.refines s role
        (restores-at _ _ k.shards.items tied.roles.shards.items tied.shards s role at works) state same).1;
  };
}
  where
    later : ShardRole
    later = record role { state = state }

-- it is as it was, or has failed and is as far as it was
pub shard-left : (k : Cluster) (tied : Tied k) (s limit : ℕ) (role : ShardRole) (state : Shard)
    → slice_get k.shards.items s ≡ Some role → shard_failed role ≡ false
    → (state ≡ role.state) ⊎ HasFailed role.state state
    → LeftOrFailed k (step.Pull s limit) (record k { shards = with_item k.shards s (record role { state = state }) })
shard-left k tied s limit role state at works left = ⊎_elim by-state by-failure left
  where
    later : ShardRole
    later = record role { state = state }

    new : Cluster
    new = record k { shards = with_item k.shards s later }

    by-state : state ≡ role.state → LeftOrFailed k (step.Pull s limit) new
    by-state same =
        let stays = shard-kept k tied s role state at works same in
        record { machine = stays.machine; failed = inl stays.failed; tied = stays.tied }

    by-failure : HasFailed role.state state → LeftOrFailed k (step.Pull s limit) new
    by-failure failed =
        let same : progress_of later ≡ progress_of role =
        ap (λ (floor : ℕ). record (progress_of role) { floor = floor }) failed.floor in
        record {
          machine = ap (λ (shards : List ShardProgress). record (machine_of k) { shards = shards })
              (flags-same progress_of k.shards.items s role later at same);
          failed = inr (ap (λ (flags : List Bool). record (failures_of k) { shards = flags })
              (map-set shard_failed k.shards.items s later
              ∙ ap (slice_set (map shard_failed k.shards.items) s) failed.fails));
          tied = record {
            roles = tied.roles;
            commit_proxies = tied.commit_proxies;
            resolvers = tied.resolvers;
            logs = tied.logs;
            shards = restores-failed _ _ k.shards.items tied.roles.shards.items tied.shards s role later at works
                failed.fails (same, failed.range, failed.version);
            refines = tied.refines;
          };
        }
