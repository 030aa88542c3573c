use Rattle.std.proofs.Common.{◌≡◌, ◌∙◌, sym, ap, subst, length, List, [], ◌∷◌, ◌++◌, Option, None, Err}
use Rattle.fdb_keys.specs.declared.refusal.Refused.{Refused}
use Rattle.fdb_txn.specs.declared.entry.Entry.{Entry}
use Rattle.fdb_book.specs.Appending.{append_fault, Appends, Found}
use Rattle.fdb_sections.specs.Issuing.{IsAppendRefused, AppendsToFront}
use Rattle.fdb_sections.specs.Asking.{AreAsked}
use Rattle.fdb_sections.proofs.AskingLemmas.{Known, longer-known}
use Rattle.fdb_sections.proofs.IssueLemmas.{append-refused}
use Rattle.fdb_sections.proofs.known_front.KnownFront.append.Goals as goal
use Rattle.fdb_sections.proofs.known_front.KnownFront.append.Goals.{in-Ok, in-Err+in-Some+in-Some-refused-2}
use Rattle.fdb_sections.proofs.known_front.KnownFront.append.Goals.{in-Err+in-Some+in-None-1, in-Err+in-None-1}

pub invariant_of-result : goal.invariant_of-result
invariant_of-result g c =
    subst (Known g.B.DatabaseName.allows g.B.DatabaseName.config) (sym c.in-Ok.ensures.answers.1)
    (longer-known g.B.DatabaseName.allows g.B.DatabaseName.config (length g.B.BookName.cells) c.self.inside.front
    c.asked.inside.front c.in-Ok.share c.args.entry c.self.invariant c.asked.invariant c.in-Ok.ensures.answers
    c.know_sealed.ensures c.requires.moves
    (subst (λ (front : List Entry).
    ∥ AreAsked g.B.DatabaseName.allows g.B.DatabaseName.config.resolver_splits front c.args.entry.batch ∥₁)
    (sym c.asked.view_is) c.requires.asked)
    c.agree-order.ensures.shorter c.agree-order.ensures.longer)

pub invariant_of-self : goal.invariant_of-self
invariant_of-self g c =
    let allows = g.B.DatabaseName.allows in
    let config = g.B.DatabaseName.config in
    let refused : c.append_and_share.new.front ≡ c.self.inside.front → Known allows config c.append_and_share.new.front
    =
    λ same. subst (Known allows config) (sym same) c.self.invariant in
    elim c.match-append_and_share.branch [
      | in-Ok w ↦
          subst (Known allows config) (sym (w.in-Ok.ensures.longer ∙ w.in-Ok.ensures.answers.1))
          (longer-known allows config (length g.B.BookName.cells) c.self.inside.front c.asked.inside.front w.in-Ok.share
          c.args.entry c.self.invariant c.asked.invariant w.in-Ok.ensures.answers c.know_sealed.ensures c.requires.moves
          (subst (λ (front : List Entry). ∥ AreAsked allows config.resolver_splits front c.args.entry.batch ∥₁)
          (sym c.asked.view_is) c.requires.asked)
          w.agree-order.ensures.shorter w.agree-order.ensures.longer)
      | in-Err+in-Some+in-Some-refused-2 w ↦ refused w.in-Err.ensures.refused
      | in-Err+in-Some+in-None-1 w ↦ refused w.in-Err.ensures.refused
      | in-Err+in-None-1 w ↦ refused w.in-Err.ensures.refused
    ]

pub returns-clause-answers : goal.returns-clause-answers
returns-clause-answers g c =
    let capacity = length g.B.BookName.cells in
    let refused : (why : Refused (Option Found)) → Appends capacity c.self.inside.front c.args.entry (Err why)
    → IsAppendRefused (append_fault capacity c.args.self.now c.args.entry) why.why =
    λ why answers. subst (λ (front : List Entry). IsAppendRefused (append_fault capacity front c.args.entry) why.why)
    c.self.view_is (append-refused capacity c.self.inside.front c.args.entry why answers) in
    elim c.match-append_and_share.branch [
      | in-Ok w ↦
          subst (AppendsToFront capacity c.args.self.now c.args.entry) (sym w.result-is) (
            subst (λ (front : List Entry). append_fault capacity front c.args.entry ≡ None) c.self.view_is
                w.in-Ok.ensures.answers.0,
            w.in-Ok.ensures.answers.1 ∙ ap (λ (front : List Entry). front ++ c.args.entry ∷ []) c.self.view_is,
          )
      | in-Err+in-Some+in-Some-refused-2 w ↦
          subst (AppendsToFront capacity c.args.self.now c.args.entry) (sym w.result-is)
          (refused w.in-Err.refused w.in-Err.ensures.answers)
      | in-Err+in-Some+in-None-1 w ↦
          subst (AppendsToFront capacity c.args.self.now c.args.entry) (sym w.result-is)
          (refused w.in-Err.refused w.in-Err.ensures.answers)
      | in-Err+in-None-1 w ↦
          subst (AppendsToFront capacity c.args.self.now c.args.entry) (sym w.result-is)
          (refused w.in-Err.refused w.in-Err.ensures.answers)
    ]
