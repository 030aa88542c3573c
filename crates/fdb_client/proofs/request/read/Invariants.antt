use Rattle.std.proofs.Common.{◌≡◌, ◌≤◌, take}
use Rattle.fdb_client.specs.Programs.{program, replies_of, read_ranges, decided_ranges}
use Rattle.fdb_client.proofs.request.read.Given as goal

abbrev pub invariant-loop-number : goal.invariant-loop-number
invariant-loop-number l =
    (l.settled ≤ l.number)
    × (l.reads ≡ read_ranges (program (take l.number l.ops)) (replies_of (take l.number l.ops)))
    × (l.decided ≡ decided_ranges (program (take l.settled l.ops)))
