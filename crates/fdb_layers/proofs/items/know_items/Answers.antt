use Rattle.std.proofs.Math.Logic.{∥∥₁_map}
use Rattle.fdb_layers.proofs.items.know_items.Goals as goal

pub returns : goal.returns
returns g c = ∥∥₁_map c.know_allowed.ensures
    (λ of. c.queue_books_keep_their_items.ensures g.B.ClusterName.config.resolver_splits c.args.record.now.front of)
