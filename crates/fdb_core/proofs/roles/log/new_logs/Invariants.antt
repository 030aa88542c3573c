use Rattle.fdb_core.specs.refinement.Starts.{AreNewLogs}
use Rattle.fdb_core.proofs.roles.log.new_logs.Given as goal

abbrev pub invariant-loop-log : goal.invariant-loop-log
invariant-loop-log l = AreNewLogs l.log l.logs l.tags l.list.items
