use Rattle.std.proofs.Common.{◌≡◌, ◌^◌, ◌-◌, min, take, sum_by}
use Rattle.fdb_mutations.specs.Mutations.{mutation_size}
use Rattle.fdb_client.specs.Programs.{program, mutations_of}
use Rattle.fdb_client.proofs.sealing.written_size.Given as goal

abbrev pub invariant-loop-op : goal.invariant-loop-op
invariant-loop-op l =
    l.total ≡ min (sum_by mutation_size (mutations_of (program (take l.op-index l.ops)))) (2 ^ 64 - 1)
