use Rattle.std.proofs.Common.{◌≡◌, length}
use Rattle.fdb_check.proofs.JudgedLemmas.{IsJudgedTo}
use Rattle.fdb_check.proofs.judged.judge_entries.Given as goal

abbrev pub invariant-loop-entry : goal.invariant-loop-entry
invariant-loop-entry l = (length l.judged ≡ l.entry-index)
    × IsJudgedTo l.initial.judge.owners.splits l.book l.entry-index l.judged l.judge
