use Rattle.std.proofs.Common.{refl}
use Rattle.fdb_roles.proofs.Exports.{answers-fault}
use Rattle.fdb_core.proofs.refinement.StartLemmas.{no-logs, one-log}
use Rattle.fdb_log.specs.Logs.{config_fault, IsNewLog}
use Rattle.fdb_core.proofs.roles.log.new_logs.Goals as goal

pub loop-log-init : goal.loop-log-init
loop-log-init c = rw c.new-list.ensures.items (no-logs c.args.logs c.args.tags)

pub loop-log-preserved : goal.loop-log-preserved
loop-log-preserved c =
    rw c.in_ok-push.ensures.items
    (one-log c.loop-log.log c.args.logs c.args.tags c.loop-log.list.items
    (record { state = c.in_ok-state.state; taken = 0 }) c.loop-log.invariant
    (answers-fault (config_fault c.loop-log.log c.args.logs c.args.tags) c.in_ok-state.state
    (IsNewLog c.loop-log.log c.args.logs c.args.tags) c.in_ok-state.ensures).1 refl)
