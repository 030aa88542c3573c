use Rattle.std.proofs.Common.{List, ◌++◌, take}
use Rattle.fdb_client.specs.declared.program.Op.{Op}
use Rattle.fdb_client.specs.declared.program.Reply.{Reply}
use Rattle.fdb_client.specs.Programs.{program}
use Rattle.fdb_client.specs.TxnState.{AreWritesOf}
use Rattle.fdb_client.proofs.answered.Written.add_all.Given as goal

abbrev pub invariant-loop-op : goal.invariant-loop-op
invariant-loop-op l =
    (earlier : List (Op × Reply)) → AreWritesOf (program earlier) l.initial.self.own l.initial.self.writes
    → AreWritesOf (program (earlier ++ take l.op-index l.ops)) l.self.own l.self.writes
