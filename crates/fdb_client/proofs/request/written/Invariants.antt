use Rattle.std.proofs.Common.{◌≡◌, take}
use Rattle.fdb_client.specs.Programs.{program, write_ranges}
use Rattle.fdb_client.proofs.request.written.Given as goal

abbrev pub invariant-loop-op : goal.invariant-loop-op
invariant-loop-op l = l.writes ≡ write_ranges (program (take l.op-index l.ops))
