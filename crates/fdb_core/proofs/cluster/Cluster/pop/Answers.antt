use Rattle.std.proofs.Common.{◌≡◌, ◌∙◌, refl, sym, ap₂, ◌%◌, ◌<◌, length, ℕ, Bool, List, Some, slice_get, rules}
use Rattle.std.specs.Vec.{with_item}
use Rattle.fdb_log.specs.Logs.{tag_fault, HasPopped}
use Rattle.fdb_core.specs.declared.roles.log.LogRole.{LogRole}
use Rattle.fdb_core.specs.declared.roles.shard.ShardRole.{ShardRole}
use Rattle.fdb_machine.specs.declared.step.AnyStep.TheVariants as step
use Rattle.fdb_machine.specs.machine.Roles.{ShardProgress}
use Rattle.fdb_core.specs.refinement.Cluster.{machine_of}
use Rattle.fdb_core.specs.refinement.Restoring.{failures_of, log_failed, shard_failed}
use Rattle.fdb_machine.proofs.Exports.{never-refused}
use Rattle.fdb_roles.proofs.Exports.{given-fault, read-there}
use Rattle.fdb_core.proofs.refinement.shard.Pulling.{Pulling, find-pulling, its-pop, log-within, log-used}
use Rattle.fdb_core.proofs.refinement.shard.Steps.{counted, pop-faultless, pop-goes_on, pop-tied, pop-taken}
use Rattle.fdb_core.proofs.refinement.RestoringLemmas.{restored, restores-set, flags-same}
use Rattle.fdb_core.proofs.refinement.StepLemmas.{accepted-restored, fails, kept, refuses}
use Rattle.fdb_core.proofs.cluster.Cluster.pop.Goals as goal
use Rattle.fdb_core.proofs.cluster.Cluster.pop.Goals.{After-version-version}

-- a log that has failed drops nothing
pub returns-then-is_failed-2 : goal.returns-then-is_failed-2
returns-then-is_failed-2 c =
    let k = c.args.self.now in
    let role = c.index.result.now in
    let log = c.index-2.result.now in
    let count : c.len-2.result ≡ length k.logs.items = search rules in
    let there : slice_get k.shards.items c.args.shard ≡ Some role =
    read-there k.shards.items c.args.shard role (search rules) c.index.ensures in
    refuses (step.Pop c.args.shard)
    (fails k (step.Pop c.args.shard) (log-used k c.requires c.args.shard c.len-2.result count log
    (read-there k.logs.items (c.args.shard % c.len-2.result) log
    (log-within k c.requires c.args.shard c.len-2.result count) c.index-2.ensures) (sym c.if-is_failed-2.ensures))
    (its-pop k c.requires c.args.shard role there)) (kept k c.requires)

-- the shard and its log, which work
found : (c : After-version-version) → Pulling c.args.self.now c.requires c.args.shard c.len-2.result
    c.index_mut-role.result.now c.index_mut-log.result.now
found c =
    let k = c.args.self.now in
    let inside : c.args.shard < length k.shards.items = search rules in
    let count : c.len-2.result ≡ length k.logs.items = search rules in
    find-pulling k c.requires c.args.shard c.len-2.result c.index.result.now c.index_mut-role.result.now
    c.index-2.result.now c.index_mut-log.result.now inside count c.index.ensures c.index-2.ensures
    c.index_mut-role.ensures.value c.index_mut-log.ensures.value (sym c.if-is_failed.ensures)
    (sym c.if-is_failed-2.ensures)

-- the log drops what the shard applied
pub returns-in_err-pop : goal.returns-in_err-pop
returns-in_err-pop c =
    let k = c.args.self.now in
    let log = c.index_mut-log.result.now in
    let version = c.version-version.result in
    let its = found (goal.at.returns-in_err-pop c).After-version-version in
    absurd (never-refused (tag_fault log.state c.args.shard version) c.in_err-pop.field-0.0 _
    (pop-faultless (restored k c.requires) c.requires.refines c.args.shard c.len-2.result version
    c.index_mut-role.result.now log its.was its.count its.log_was c.version-version.ensures)
    c.in_err-pop.ensures.answers)

pub returns : goal.returns
returns c =
    let k = c.args.self.now in
    let tied = c.requires in
    let shard = c.args.shard in
    let logs = c.len-2.result in
    let role = c.index_mut-role.result.now in
    let log = c.index_mut-log.result.now in
    let version = c.version-version.result in
    let its = found (goal.at.returns c).After-version-version in
    let dropped : HasPopped log.state shard version c.pop.new.self =
    (given-fault (tag_fault log.state shard version) c.in_ok-pop.field-0
    (λ _. HasPopped log.state shard version c.pop.new.self) c.in_ok-pop.ensures.answers).1 in
    let log-later : LogRole = record log { state = c.pop.new.self } in
    let later : ShardRole = record role { popped = version } in
    let k0 = restored k tied in
    accepted-restored k _ (step.Pop shard) tied (record {
      roles = record tied.roles {
        logs = with_item tied.roles.logs (shard % logs) log-later;
        shards = with_item tied.roles.shards shard later;
      };
      commit_proxies = tied.commit_proxies;
      resolvers = tied.resolvers;
      logs = restores-set _ _ k.logs.items tied.roles.logs.items tied.logs (shard % logs) log-later;
      shards = restores-set _ _ k.shards.items tied.roles.shards.items tied.shards shard later;
      refines = pop-tied k0 tied.refines shard logs version role log its.was its.count its.log_was
          c.version-version.ensures c.pop.new.self dropped;
    }) its.unused
    (pop-goes_on k0 tied.refines shard logs version role log its.was its.count its.log_was c.version-version.ensures)
    refl
    (ap₂ (λ (taken : List ℕ) (shards : List ShardProgress). record (machine_of k0) { logs = taken; shards = shards })
    (pop-taken k0 tied.refines shard logs version role log its.was its.count its.log_was c.version-version.ensures
    c.pop.new.self)
    (counted k0 tied.refines shard role its.was later))
    (ap₂ (λ (of-logs of-shards : List Bool). record (failures_of k) { logs = of-logs; shards = of-shards })
    (flags-same log_failed k.logs.items (shard % logs) log log-later its.log_here
    (dropped.works ∙ sym its.log_works))
    (flags-same shard_failed k.shards.items shard role later its.here refl))
