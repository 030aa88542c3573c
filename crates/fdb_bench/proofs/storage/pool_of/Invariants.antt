use Rattle.std.proofs.Common.{◌≡◌, length}
use Rattle.fdb_bench.proofs.storage.pool_of.Given as goal

abbrev pub invariant-loop-key : goal.invariant-loop-key
invariant-loop-key l = length l.pool.items ≡ l._key
