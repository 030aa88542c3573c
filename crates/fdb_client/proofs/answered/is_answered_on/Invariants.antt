use Rattle.std.proofs.Common.{◌≤◌, take}
use Rattle.fdb_client.specs.Programs.{program}
use Rattle.fdb_client.specs.TxnState.{AreWritesOf}
use Rattle.fdb_client.proofs.AnsweredLemmas.{AnsweredSoFar}
use Rattle.fdb_client.proofs.answered.is_answered_on.Given as goal

abbrev pub invariant-loop-number : goal.invariant-loop-number
invariant-loop-number l =
    (l.added ≤ l.number)
    × AreWritesOf (program (take l.added l.transcript.ops)) l.written.own l.written.writes
    × AnsweredSoFar l.map (take l.number l.transcript.ops)
