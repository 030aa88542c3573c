use Rattle.std.proofs.Common.{◌≡◌, suc, length, List}
use Rattle.fdb_keys.specs.Points.{Point}
use Rattle.fdb_txn.specs.book.History.{AreEntries}
use Rattle.fdb_core.specs.check.Checking.{HaveHeld}
use Rattle.fdb_check.specs.Running.{run_of}
use Rattle.fdb_core.proofs.check.shards.run_all.Given as goal

abbrev pub invariant-loop-index : goal.invariant-loop-index
invariant-loop-index l = (splits : List Point) → AreEntries (suc (length splits)) 0 l.book
    → l.fn.first ≡ run_of splits l.book 0
    → (l.run ≡ run_of splits l.book l.index) × HaveHeld splits l.book l.shards l.index
