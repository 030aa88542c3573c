use Rattle.std.proofs.Common.{◌≡◌, take, map}
use Rattle.fdb_keys.specs.Points.{Point}
use Rattle.fdb_keys.specs.Ranges.{in_set}
use Rattle.fdb_mutations.specs.Mutations.{named_range}
use Rattle.fdb_txn.specs.book.Transactions.{some_names}
use Rattle.fdb_txn.proofs.writes.named_ranges.Given as goal

abbrev pub invariant-loop-mutation : goal.invariant-loop-mutation
invariant-loop-mutation l = record {
  list : l.ranges.items ≡ map named_range (take l.mutation-index l.mutations);
  points : (x : Point) → in_set l.ranges.items x ≡ some_names (take l.mutation-index l.mutations) x;
}
