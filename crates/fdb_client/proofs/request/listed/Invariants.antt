use Rattle.std.proofs.Common.{◌≡◌, take}
use Rattle.fdb_client.specs.Programs.{program, mutations_of}
use Rattle.fdb_client.proofs.request.listed.Given as goal

abbrev pub invariant-loop-op : goal.invariant-loop-op
invariant-loop-op l = l.mutations ≡ mutations_of (program (take l.op-index l.ops))
