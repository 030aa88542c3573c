use Rattle.std.proofs.Common.{◌≡◌, ◌<◌, ℕ, length, take}
use Rattle.std.specs.List.{All}
use Rattle.fdb_txn.specs.book.History.{AreEntries}
use Rattle.fdb_check.specs.Running.{visits_from}
use Rattle.fdb_check.specs.declared.visits.Visit.{Visit}
use Rattle.fdb_check.proofs.visits.visits_of.Given as goal

abbrev pub invariant-loop-index : goal.invariant-loop-index
invariant-loop-index l =
    All (λ (visit : Visit). visit.index < length l.placed) l.visits.items
    × ((resolvers : ℕ) → AreEntries resolvers 0 l.book → l.visits.items ≡ visits_from l.book 0 (take l.index l.placed))
