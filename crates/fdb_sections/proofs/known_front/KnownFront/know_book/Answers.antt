use Rattle.std.proofs.Common.{suc, length, subst}
use Rattle.fdb_txn.specs.book.History.{IsBook}
use Rattle.fdb_txn.proofs.Exports.{books_are_entries}
use Rattle.fdb_sections.proofs.known_front.KnownFront.know_book.Goals as goal

pub returns : goal.returns
returns g c =
    let resolvers = suc (length g.B.DatabaseName.config.resolver_splits) in
    let linked = c.len-count.ensures.book in
    subst (IsBook resolvers) c.self.view_is
    ((books_are_entries resolvers c.self.inside.front).1 (c.self.invariant.0, linked.ids, linked.horizons)).0
