use Rattle.std.proofs.Common.{◌≡◌, false}
use Rattle.std.specs.Prelude.{◌↔◌}
use Rattle.fdb_mutations.specs.Pairs.{pairs_in}
use Rattle.fdb_sections.specs.Records.{every_key}
use Rattle.fdb_layers.specs.Reads.{count_left, pairs_left, run_read, HasOnlyRead}
use Rattle.fdb_layers.proofs.rolling.reads_just.Given as goal

abbrev pub invariant-loop-alloc : goal.invariant-loop-alloc
invariant-loop-alloc g l =
    let map = run_read g.C.ClusterName.config.resolver_splits l.fn.session in record {
      reads : HasOnlyRead l.fn.session l.session;
      just : (l.rest ≡ pairs_left map l.pages.rest) ↔ (l.pairs ≡ pairs_in map every_key false);
    }

abbrev pub decreases-loop-alloc : goal.decreases-loop-alloc
decreases-loop-alloc g l = count_left (run_read g.C.ClusterName.config.resolver_splits l.fn.session) l.pages.rest
