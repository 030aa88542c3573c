use Rattle.fdb_bench.specs.Items.{AreItemsBelow}
use Rattle.fdb_bench.proofs.resolver.items_of.Given as goal

abbrev pub invariant-loop-place : goal.invariant-loop-place
invariant-loop-place l = AreItemsBelow l.place l.items
