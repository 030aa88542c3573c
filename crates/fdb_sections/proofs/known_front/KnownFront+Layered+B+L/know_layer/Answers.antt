use Rattle.std.proofs.Common.{ℕ}
use Rattle.std.proofs.Math.Logic.{∥∥₁_map}
use Rattle.fdb_sections.proofs.known_front.KnownFront+Layered+B+L.know_layer.Goals as goal

pub returns : goal.returns
returns g c = λ (v : ℕ). ∥∥₁_map c.know_allowed.ensures
    (λ of. c.a_book_keeps_what_each_transaction_keeps.ensures g.B.ClusterName.config.resolver_splits c.args.self.now of
    v)
