use Rattle.std.proofs.Common.{suc, length, List}
use Rattle.std.specs.List.Sorted.{IsPermutation}
use Rattle.fdb_keys.specs.Points.{Point}
use Rattle.fdb_txn.specs.book.History.{AreEntries}
use Rattle.fdb_check.specs.Running.{HasComeTo, IsInOrder, visits_from}
use Rattle.fdb_roles.specs.Spots.{IsSerialized}
use Rattle.fdb_check.proofs.VisitLemmas.{IsSoFar}
use Rattle.fdb_check.proofs.comparing.run_visits.Given as goal

abbrev pub invariant-loop-number : goal.invariant-loop-number
invariant-loop-number l = (splits : List Point) → AreEntries (suc (length splits)) 0 l.book
    → HasComeTo splits l.book 0 0 l.initial.run → IsInOrder l.visits
    → IsPermutation (visits_from l.book 0 l.placed) l.visits
    → IsSoFar splits l.book (IsSerialized splits l.book) l.placed l.visits l.number l.run
