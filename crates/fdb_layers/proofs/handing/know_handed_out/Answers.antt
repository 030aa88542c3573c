use Rattle.fdb_layers.proofs.HandingLemmas.{handed-if-any}
use Rattle.fdb_layers.proofs.handing.know_handed_out.Goals as goal

pub returns : goal.returns
returns g c =
    handed-if-any g.B.ClusterName.config.resolver_splits c.args.receipt.now c.args.pop.now.item
    c.spot-spot.ensures.receipt c.know_allowed.ensures c.requires.popped
