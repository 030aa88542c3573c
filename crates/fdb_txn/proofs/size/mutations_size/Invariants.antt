use Rattle.std.proofs.Common.{◌≡◌, ◌≤◌, ◌+◌, ◌^◌, ◌-◌, min, drop, sum_by}
use Rattle.fdb_mutations.specs.Mutations.{mutation_size}
use Rattle.fdb_txn.proofs.size.mutations_size.Given as goal

abbrev pub invariant-loop-mutation : goal.invariant-loop-mutation
invariant-loop-mutation l = record {
  sum : min (l.total + sum_by mutation_size (drop l.mutation-index l.mutations)) (2 ^ 64 - 1)
      ≡ min (sum_by mutation_size l.mutations) (2 ^ 64 - 1);
  within : l.total ≤ 2 ^ 64 - 1;
}
