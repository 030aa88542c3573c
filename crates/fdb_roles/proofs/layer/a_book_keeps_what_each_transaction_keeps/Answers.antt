use Rattle.fdb_roles.proofs.LayerLaws.{book_keeps}
use Rattle.fdb_roles.proofs.layer.a_book_keeps_what_each_transaction_keeps.Goals as goal

pub returns : goal.returns
returns g c = book_keeps g.L.Layer.allows g.L.Layer.holds c.starts.ensures c.keeps.ensures
