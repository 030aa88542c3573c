use Rattle.std.proofs.Common.{subst}
use Rattle.fdb_layers.proofs.RollingLemmas.{goes-further, more-set, split-whole, AreSetBut}
use Rattle.fdb_layers.proofs.rolling.copy_all.Goals as goal

pub loop-rest-preserved : goal.loop-rest-preserved
loop-rest-preserved g c =
    let splits = g.C.ClusterName.config.resolver_splits in
    let old = c.loop-rest.session in
    let new = c.copy_part.new.session in
    let part = c.split_at.result.0.now in
    let others = c.split_at.result.1.now in
    record {
      goes_on = goes-further c.args.session.now old new c.loop-rest.invariant.goes_on c.copy_part.ensures.goes_on;
      set = more-set splits old.front new.front c.args.pairs.now part others c.copy_part.ensures.goes_on.seen
          (subst (AreSetBut splits old.front c.args.pairs.now)
          (split-whole c.loop-rest.rest.now part others c.count_fitting.result c.split_at.ensures.front
          c.split_at.ensures.back)
          c.loop-rest.invariant.set)
          c.in_ok-copy_part.ensures.set;
    }
