use Rattle.std.proofs.Common.{◌≡◌, ◌∙◌, refl, sym, ap, inl, ◌%◌, length, ℕ, Bool, List, Some, slice_get, ◌<◌}
use Rattle.std.proofs.Common.{◌+◌, arith, rules}
use Rattle.std.specs.Vec.{with_item}
use Rattle.fdb_log.specs.Logs.{peek_fault, peek_of}
use Rattle.fdb_storage.specs.Shards.{apply_fault, HasApplied, HasFailed}
use Rattle.fdb_core.specs.declared.roles.shard.ShardRole.{ShardRole}
use Rattle.fdb_machine.specs.declared.step.Answered.TheVariants as answered
use Rattle.fdb_machine.specs.declared.step.AnyStep.TheVariants as step
use Rattle.fdb_machine.specs.machine.Roles.{ShardProgress}
use Rattle.fdb_core.specs.refinement.Cluster.{machine_of}
use Rattle.fdb_core.specs.refinement.Restoring.{failures_of, shard_failed}
use Rattle.fdb_machine.proofs.Exports.{left-or-failed}
use Rattle.fdb_roles.proofs.Exports.{answers-fault, lacks-memory, read-there}
use Rattle.fdb_core.proofs.refinement.shard.Failing.{shard-left}
use Rattle.fdb_core.proofs.refinement.shard.Pulling.{Pulling, find-pulling, its-log, its-pull, log-within}
use Rattle.fdb_core.proofs.refinement.shard.Pulling.{log-used, shard-used}
use Rattle.fdb_core.proofs.refinement.shard.Steps.{peek-faultless, apply-faultless, pull-room, pull-goes_on}
use Rattle.fdb_core.proofs.refinement.shard.Steps.{pull-counted, pull-tied}
use Rattle.fdb_core.proofs.refinement.RestoringLemmas.{restored, restores-set, flags-same}
use Rattle.fdb_core.proofs.refinement.StepLemmas.{accepted-restored, fails, kept, lacked, refuses}
use Rattle.fdb_core.proofs.cluster.Cluster.pull.Goals as goal
use Rattle.fdb_core.proofs.cluster.Cluster.pull.Goals.{After-version, In_ok-peek}

-- a shard that has failed pulls nothing
pub returns-then-is_failed : goal.returns-then-is_failed
returns-then-is_failed c =
    let k = c.args.self.now in
    let pull = step.Pull c.args.shard c.args.limit in
    let role = c.index.result.now in
    let there : slice_get k.shards.items c.args.shard ≡ Some role =
    read-there k.shards.items c.args.shard role (search rules) c.index.ensures in
    refuses pull
    (fails k pull (shard-used k c.requires c.args.shard role there (sym c.if-is_failed.ensures))
    (its-pull k c.requires c.args.shard role there c.args.limit)) (kept k c.requires)

-- and nothing is pulled from a log that has failed
pub returns-then-is_failed-2 : goal.returns-then-is_failed-2
returns-then-is_failed-2 c =
    let k = c.args.self.now in
    let pull = step.Pull c.args.shard c.args.limit in
    let role = c.index.result.now in
    let log = c.index-2.result.now in
    let count : c.len-2.result ≡ length k.logs.items = search rules in
    let there : slice_get k.shards.items c.args.shard ≡ Some role =
    read-there k.shards.items c.args.shard role (search rules) c.index.ensures in
    refuses pull
    (fails k pull (log-used k c.requires c.args.shard c.len-2.result count log
    (read-there k.logs.items (c.args.shard % c.len-2.result) log
    (log-within k c.requires c.args.shard c.len-2.result count) c.index-2.ensures) (sym c.if-is_failed-2.ensures))
    (its-pull k c.requires c.args.shard role there c.args.limit)) (kept k c.requires)

-- the shard and its log, which work
found : (c : After-version) → Pulling c.args.self.now c.requires c.args.shard c.len-2.result
    c.index_mut-role.result.now c.index-log.result.now
found c =
    let k = c.args.self.now in
    let inside : c.args.shard < length k.shards.items = search rules in
    let count : c.len-2.result ≡ length k.logs.items = search rules in
    find-pulling k c.requires c.args.shard c.len-2.result c.index.result.now c.index_mut-role.result.now
    c.index-2.result.now c.index-log.result.now inside count c.index.ensures c.index-2.ensures
    c.index_mut-role.ensures.value c.index-log.ensures (sym c.if-is_failed.ensures) (sym c.if-is_failed-2.ensures)

-- what the log gave
peek-is : (c : In_ok-peek) → c.in_ok-peek.peek
    ≡ peek_of c.index-log.result.now.state c.args.shard c.version.result c.args.limit
peek-is c = (answers-fault (peek_fault c.index-log.result.now.state c.args.shard c.version.result) c.in_ok-peek.peek
    (λ peek. peek ≡ peek_of c.index-log.result.now.state c.args.shard c.version.result c.args.limit)
    c.in_ok-peek.ensures.answers).1

-- the log refuses nothing unless memory runs out
pub returns-in_err-peek : goal.returns-in_err-peek
returns-in_err-peek c =
    let k = c.args.self.now in
    let tied = c.requires in
    let role = c.index_mut-role.result.now in
    let log = c.index-log.result.now in
    let its = found (goal.at.returns-in_err-peek c).After-version in
    lacked k (step.Pull c.args.shard c.args.limit) c.from_residual.result _ c.in_err-peek.field-0.0 (search rules)
    (lacks-memory (peek_fault log.state c.args.shard c.version.result) c.in_err-peek.field-0.0 _
    (peek-faultless (restored k tied) tied.refines c.args.shard c.args.limit c.version.result role log its.was
    (its-log k tied c.args.shard c.len-2.result role log its) c.version.ensures) c.in_err-peek.ensures.answers)
    (shard-left k tied c.args.shard c.args.limit role role.state its.here its.works (inl refl))

-- and neither does the shard, which is as it was then, or has failed
pub returns-in_err-apply : goal.returns-in_err-apply
returns-in_err-apply c =
    let k = c.args.self.now in
    let tied = c.requires in
    let role = c.index_mut-role.result.now in
    let log = c.index-log.result.now in
    let peek = c.in_ok-peek.peek in
    let its = found (goal.at.returns-in_err-apply c).After-version in
    lacked k (step.Pull c.args.shard c.args.limit) c.from_residual-in_err-apply.result _ c.in_err-apply.field-0.0
    (search rules)
    (lacks-memory (apply_fault role.state peek) c.in_err-apply.field-0.0 _
    (apply-faultless (restored k tied) tied.refines c.args.shard c.args.limit c.version.result role log its.was
    (its-log k tied c.args.shard c.len-2.result role log its) c.version.ensures peek
    (peek-is (goal.at.returns-in_err-apply c).In_ok-peek)) c.in_err-apply.ensures.answers)
    (shard-left k tied c.args.shard c.args.limit role c.apply.new.self its.here its.works
    (left-or-failed (apply_fault role.state peek) role.state c.apply.new.self (HasFailed role.state c.apply.new.self)
    c.in_err-apply.ensures.refused c.in_err-apply.ensures.failed))

pub overflow_add-role : goal.overflow_add-role
overflow_add-role c =
    let k = c.args.self.now in
    let tied = c.requires in
    let role = c.index_mut-role.result.now in
    let log = c.index-log.result.now in
    let its = found (goal.at.overflow_add-role c).After-version in
    let room = pull-room (restored k tied) tied.refines c.args.shard c.args.limit c.version.result role log its.was
    (its-log k tied c.args.shard c.len-2.result role log its) c.version.ensures c.in_ok-peek.peek
    (peek-is (goal.at.overflow_add-role c).In_ok-peek) in
    let count : c.len-3.result ≡ length c.in_ok-peek.peek.messages = c.len-3.ensures in
    omega (arith, room, count)

pub returns : goal.returns
returns c =
    let k = c.args.self.now in
    let tied = c.requires in
    let shard = c.args.shard in
    let role = c.index_mut-role.result.now in
    let log = c.index-log.result.now in
    let version = c.version.result in
    let peek = c.in_ok-peek.peek in
    let its = found (goal.at.returns c).After-version in
    let log-at = its-log k tied shard c.len-2.result role log its in
    let is = peek-is (goal.at.returns c).In_ok-peek in
    let applied : HasApplied role.state peek c.apply.new.self =
    (answers-fault (apply_fault role.state peek) c.in_ok-apply.field-0
    (λ _. HasApplied role.state peek c.apply.new.self) c.in_ok-apply.ensures.answers).1 in
    let k0 = restored k tied in
    let later : ShardRole = record role { state = c.apply.new.self; applied = role.applied + c.len-3.result } in
    accepted-restored k _ (step.Pull shard c.args.limit) tied (record {
      roles = record tied.roles { shards = with_item tied.roles.shards shard later };
      commit_proxies = tied.commit_proxies;
      resolvers = tied.resolvers;
      logs = tied.logs;
      shards = restores-set _ _ k.shards.items tied.roles.shards.items tied.shards shard later;
      refines = pull-tied k0 tied.refines shard c.args.limit version role log its.was log-at c.version.ensures peek is
          c.apply.new.self applied c.len-3.result c.len-3.ensures;
    }) its.unused
    (pull-goes_on k0 tied.refines shard c.args.limit version role log its.was log-at c.version.ensures peek is
    c.apply.new.self applied c.len-3.result c.len-3.ensures)
    (ap (λ (reached : ℕ). answered.Version reached) c.version-2.ensures)
    (ap (λ (shards : List ShardProgress). record (machine_of k0) { shards = shards })
    (pull-counted k0 tied.refines shard c.args.limit version role log its.was log-at c.version.ensures peek is
    c.apply.new.self applied c.len-3.result c.len-3.ensures))
    (ap (λ (flags : List Bool). record (failures_of k) { shards = flags })
    (flags-same shard_failed k.shards.items shard role later its.here (applied.works ∙ sym its.works)))
