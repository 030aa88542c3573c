-- A log in which memory ran out.
use Rattle.std.proofs.Common.{◌≡◌, ◌∙◌, ap, refl, inl, inr, ⊎_elim, ◌⊎◌, ℕ, Bool, false, List, map, Some, slice_get}
use Rattle.std.proofs.Common.{slice_set}
use Rattle.std.specs.Vec.{with_item}
use Rattle.fdb_txn.specs.declared.entry.Entry.{Entry}
use Rattle.fdb_log.specs.Logs.{Log, HasFailed}
use Rattle.fdb_core.specs.declared.cluster.Cluster.{Cluster}
use Rattle.fdb_core.specs.declared.roles.log.LogRole.{LogRole}
use Rattle.fdb_machine.specs.declared.step.AnyStep.TheVariants as step
use Rattle.fdb_core.specs.refinement.Cluster.{machine_of}
use Rattle.fdb_core.specs.refinement.Restoring.{Tied, failures_of, log_failed}
use Rattle.fdb_core.specs.refinement.Steps.{LeftOrFailed}
use Rattle.fdb_roles.proofs.Exports.{map-set}
use Rattle.fdb_core.proofs.refinement.log.Pushing.{log-same}
use Rattle.fdb_core.proofs.refinement.StepLemmas.{IsKept}
use Rattle.fdb_core.proofs.refinement.RestoringLemmas.{restored, restores-at, restores-set, restores-failed, flags-same}

-- one whose state is as it was leaves the world as it was
pub log-kept : (k : Cluster) (tied : Tied k) (i l : ℕ) (entry : Entry) (role : LogRole) (state : Log)
    → slice_get k.book.items i ≡ Some entry → slice_get k.logs.items l ≡ Some role → log_failed role ≡ false
    → state ≡ role.state → IsKept k (record k { logs = with_item k.logs l (record role { state = state }) })
log-kept k tied i l entry role state there at works same = record {
  machine = ap (λ (taken : List ℕ). record (machine_of k) { logs = taken })
      (flags-same (λ (of : LogRole). of.taken) k.logs.items l role later at refl);
  failed = ap (λ (flags : List Bool). record (failures_of k) { logs = flags })
      (flags-same log_failed k.logs.items l role later at (ap (λ (it : Log). it.is_failed) same));
  tied = record {
    roles = record tied.roles { logs = with_item tied.roles.logs l later };
    commit_proxies = tied.commit_proxies;
    resolvers = tied.resolvers;
    logs = restores-set _ _ k.logs.items tied.roles.logs.items tied.logs l later;
    shards = tied.shards;
    refines = (log-same (restored k tied) tied.refines i l entry role there
        (restores-at _ _ k.logs.items tied.roles.logs.items tied.logs l role at works) state same).1;
  };
}
  where
    later : LogRole
    later = record role { state = state }

-- it is as it was, or has failed
pub log-left : (k : Cluster) (tied : Tied k) (i l : ℕ) (entry : Entry) (role : LogRole) (state : Log)
    → slice_get k.book.items i ≡ Some entry → slice_get k.logs.items l ≡ Some role → log_failed role ≡ false
    → (state ≡ role.state) ⊎ HasFailed role.state state
    → LeftOrFailed k (step.Push i l) (record k { logs = with_item k.logs l (record role { state = state }) })
log-left k tied i l entry role state there at works left = ⊎_elim by-state by-failure left
  where
    later : LogRole
    later = record role { state = state }

    new : Cluster
    new = record k { logs = with_item k.logs l later }

    machine : machine_of new ≡ machine_of k
    machine = ap (λ (taken : List ℕ). record (machine_of k) { logs = taken })
        (flags-same (λ (of : LogRole). of.taken) k.logs.items l role later at refl)

    by-state : state ≡ role.state → LeftOrFailed k (step.Push i l) new
    by-state same =
        let stays = log-kept k tied i l entry role state there at works same in
        record { machine = stays.machine; failed = inl stays.failed; tied = stays.tied }

    by-failure : HasFailed role.state state → LeftOrFailed k (step.Push i l) new
    by-failure failed = record {
      machine = machine;
      failed = inr (ap (λ (flags : List Bool). record (failures_of k) { logs = flags })
          (map-set log_failed k.logs.items l later
          ∙ ap (slice_set (map log_failed k.logs.items) l) failed.fails));
      tied = record {
        roles = tied.roles;
        commit_proxies = tied.commit_proxies;
        resolvers = tied.resolvers;
        logs = restores-failed _ _ k.logs.items tied.roles.logs.items tied.logs l role later at works failed.fails
            refl;
        shards = tied.shards;
        refines = tied.refines;
      };
    }
