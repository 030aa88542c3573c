use Rattle.std.proofs.Common.{◌≡◌, ◌<◌, ◌≤◌, suc, length, List}
use Rattle.fdb_keys.specs.Points.{Point}
use Rattle.fdb_txn.specs.book.History.{AreEntries}
use Rattle.fdb_check.specs.Running.{IsRunAt}
use Rattle.fdb_check.proofs.run.run_entries.Given as goal

abbrev pub invariant-loop : goal.invariant-loop
invariant-loop l = (l.initial.run.entry ≤ l.counter)
    × ((splits : List Point) → AreEntries (suc (length splits)) 0 l.book → IsRunAt splits l.book l.initial.run
    → l.until ≤ length l.book → l.initial.run.entry ≤ l.until
    → IsRunAt splits l.book l.run × (l.run.entry ≡ l.counter) × (l.counter ≤ l.until)
    × (l.initial.run.entry < l.counter → l.run.place ≡ 0)
    × (l.initial.run.entry ≡ l.counter → l.run.place ≡ l.initial.run.place))
