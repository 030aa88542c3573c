use Rattle.std.proofs.Common.{suc, length, sym, subst, List, take}
use Rattle.std.proofs.lemmas.List.{take-append-drop}
use Rattle.std.specs.Prelude.{drop}
use Rattle.fdb_txn.specs.declared.entry.Entry.{Entry}
use Rattle.fdb_txn.specs.book.History.{AreEntries}
use Rattle.fdb_roles.proofs.Exports.{entries-take}
use Rattle.fdb_sections.specs.Asking.{EachAsked}
use Rattle.fdb_sections.proofs.AskingLemmas.{short-asked}
use Rattle.fdb_sections.proofs.known_front.KnownFront.cut.Goals as goal

pub invariant_of-result : goal.invariant_of-result
invariant_of-result g c =
    let config = g.B.DatabaseName.config in
    let resolvers = suc (length config.resolver_splits) in
    let all = c.self.inside.front in
    let entries : AreEntries resolvers 0 (take c.args.len all) =
    entries-take resolvers 0 c.args.len all c.self.invariant.0 in (
      subst (AreEntries resolvers 0) (sym c.in_ok-cut.ensures) entries,
      subst (λ (front : List Entry). ∥ EachAsked g.B.DatabaseName.allows config.resolver_splits front ∥₁)
          (sym c.in_ok-cut.ensures)
          (short-asked g.B.DatabaseName.allows config resolvers (take c.args.len all) all entries c.self.invariant.0
          (drop c.args.len all, sym (take-append-drop c.args.len all)) c.self.invariant.1),
    )
