use Rattle.std.proofs.Common.{length}
use Rattle.fdb_layers.specs.Rolling.{GoesOn}
use Rattle.fdb_layers.proofs.RollingLemmas.{AreSetBut}
use Rattle.fdb_layers.proofs.rolling.copy_all.Given as goal

abbrev pub invariant-loop-rest : goal.invariant-loop-rest
invariant-loop-rest g l = record {
  goes_on : GoesOn l.fn.session l.session;
  set : AreSetBut g.C.ClusterName.config.resolver_splits l.session.front l.pairs l.rest;
}

abbrev pub decreases-loop-rest : goal.decreases-loop-rest
decreases-loop-rest g l = length l.rest
