use Rattle.std.proofs.Common.{subst, List}
use Rattle.fdb_txn.specs.declared.entry.Entry.{Entry}
use Rattle.fdb_roles.specs.Layers.{IsBookOf}
use Rattle.fdb_sections.proofs.AskingLemmas.{book-allowed}
use Rattle.fdb_sections.proofs.known_front.KnownFront.know_allowed.Goals as goal

pub returns : goal.returns
returns g c =
    let config = g.B.DatabaseName.config in
    let linked = c.len-count.ensures.book in
    subst (λ (front : List Entry). ∥ IsBookOf g.B.DatabaseName.allows config.resolver_splits front ∥₁) c.self.view_is
    (book-allowed g.B.DatabaseName.allows config c.self.inside.front c.self.invariant.0 linked c.self.invariant.1)
