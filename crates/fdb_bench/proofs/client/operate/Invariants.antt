use Rattle.std.proofs.Common.{◌≡◌}
use Rattle.fdb_bench.proofs.client.operate.Given as goal

abbrev pub invariant-loop-key : goal.invariant-loop-key
invariant-loop-key l =
    (goal.iterator-loop-key).can_next l.key-iterator
    × (goal.iterator-loop-key).is_finite l.key-iterator
    × (l.snapshot.version ≡ l.txn.read_version)
