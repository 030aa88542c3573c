use Rattle.std.proofs.Common.{arith}
use Rattle.fdb_load.proofs.names.even_splits.Goals as goal

pub returns-clause-count : goal.returns-clause-count
returns-clause-count c = omega (arith, c.loop-piece.invariant.0, c.loop-piece.invariant.1)
