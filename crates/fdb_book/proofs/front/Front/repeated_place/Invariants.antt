use Rattle.std.proofs.Common.{◌≡◌, take, drop}
use Rattle.fdb_book.specs.Ids.{repeated_place, repeated_after}
use Rattle.fdb_book.proofs.front.Front.repeated_place.Given as goal

abbrev pub invariant-loop-place : goal.invariant-loop-place
invariant-loop-place g l =
    repeated_place l.self l.batch ≡ repeated_after l.self (take l.place l.batch) (drop l.place l.batch)
