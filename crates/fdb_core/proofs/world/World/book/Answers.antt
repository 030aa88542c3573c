use Rattle.std.proofs.Common.{subst, suc, length}
use Rattle.fdb_txn.specs.book.History.{IsBook}
use Rattle.fdb_machine.specs.headline.Serving.{System}
use Rattle.fdb_core.specs.refinement.Cluster.{machine_of}
use Rattle.fdb_machine.proofs.Exports.{book-is}
use Rattle.fdb_core.proofs.world.World.book.Goals as goal

pub returns-clause-is_book : goal.returns-clause-is_book
returns-clause-is_book c =
    let k = c.self.inside.cluster in
    rw c.as_slice.ensures.value (subst (λ (system : System).
    IsBook (suc (length system.state.machine.config.resolver_splits)) k.book.items) c.self.view_is
    (book-is (machine_of k) c.self.invariant.1).0)

pub returns-clause-each_sealed : goal.returns-clause-each_sealed
returns-clause-each_sealed c = rw c.as_slice.ensures.value
    (book-is (machine_of c.self.inside.cluster) c.self.invariant.1).1
