use Rattle.fdb_layers.specs.Auditing.{AreBut}
use Rattle.fdb_layers.specs.Reads.{count_left, pairs_left, run_read, HasOnlyRead}
use Rattle.fdb_layers.proofs.auditing.walk.Given as goal

abbrev pub invariant-loop-alloc : goal.invariant-loop-alloc
invariant-loop-alloc g l =
    let map = run_read g.B.ClusterName.config.resolver_splits l.fn.session in record {
      reads : HasOnlyRead l.fn.session l.session;
      but : AreBut map (pairs_left map l.pages.rest) l.amounts;
    }

abbrev pub decreases-loop-alloc : goal.decreases-loop-alloc
decreases-loop-alloc g l = count_left (run_read g.B.ClusterName.config.resolver_splits l.fn.session) l.pages.rest
