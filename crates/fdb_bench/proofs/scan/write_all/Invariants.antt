use Rattle.std.proofs.Common.{◌≡◌}
use Rattle.fdb_bench.proofs.scan.write_all.Given as goal

abbrev pub invariant-loop-set : goal.invariant-loop-set
invariant-loop-set l = l.txn.read_version ≡ l.initial.txn.read_version
