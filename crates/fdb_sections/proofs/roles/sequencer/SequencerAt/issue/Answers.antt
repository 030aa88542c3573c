use Rattle.std.proofs.Common.{◌≡◌, ◌∙◌, ◌<◌, ◌++◌, [], ◌∷◌, ℕ, None, length, suc, subst, sym, ap}
use Rattle.std.specs.List.{AllByRecursion}
use Rattle.fdb_txn.specs.declared.entry.Entry.{Entry}
use Rattle.fdb_txn.specs.declared.entry.Move.{Move}
use Rattle.fdb_book.specs.Appending.{append_fault}
use Rattle.fdb_roles.specs.Entries.{entry_of}
use Rattle.fdb_txn.specs.book.Book.{last_version}
use Rattle.fdb_sequencer.specs.declared.ticket.Ticket.{Ticket}
use Rattle.fdb_sequencer.specs.Sequencer.{plan_fault, planned}
use Rattle.fdb_roles.proofs.Exports.{answers-fault}
use Rattle.fdb_sections.specs.Asking.{BatchAtFront}
use Rattle.fdb_sections.specs.RolesAtFronts.{SequencerAtFront}
use Rattle.fdb_sections.proofs.IssueLemmas.{ReadBelow, accepted-there, read-below-it, its-moves, planned-accepted}
use Rattle.fdb_sections.proofs.roles.sequencer.SequencerAt.issue.Goals as goal

pub accept-requires : goal.accept-requires
accept-requires g c =
    let state = c.self.inside.state in
    let plan = answers-fault (plan_fault state c.args.proxy c.args.advance) c.in_ok-ticket.ticket
    (λ (ticket : Ticket). ticket ≡ planned state c.args.proxy c.args.advance) c.in_ok-ticket.ensures in
    planned-accepted state c.in_ok-ticket.ticket c.args.proxy c.args.advance plan.0 plan.1

pub invariant_of-self-2 : goal.invariant_of-self-2
invariant_of-self-2 g c =
    let state = c.self.inside.state in
    let plan = answers-fault (plan_fault state c.args.proxy c.args.advance) c.in_ok-ticket.ticket
    (λ (ticket : Ticket). ticket ≡ planned state c.args.proxy c.args.advance) c.in_ok-ticket.ensures in
    accepted-there c.self.inside.front c.asked.inside.batch state c.in_ok-ticket.ticket c.in_ok-entry.entry
    c.append.new.self
    c.in_ok-entry.ensures (c.in_ok-front.ensures.longer ∙ c.in_ok-front.ensures.answers.1) g.B.DatabaseName.config
    c.accept.new.state c.self.invariant
    (planned-accepted state c.in_ok-ticket.ticket c.args.proxy c.args.advance plan.0 plan.1) c.accept.ensures

pub returns-clause-reads : goal.returns-clause-reads
returns-clause-reads g c =
    subst (λ (asked : BatchAtFront). (last_version c.in_ok-front.front ≡ c.in_ok-ticket.ticket.version)
    × ReadBelow c.in_ok-ticket.ticket.version asked.batch) c.asked.view_is
    (read-below-it c.self.inside.front c.asked.inside.batch c.self.inside.state c.in_ok-ticket.ticket
    c.in_ok-entry.entry
    c.in_ok-front.front c.in_ok-entry.ensures c.in_ok-front.ensures.answers.1
    (length g.B.BookName.cells) c.in_ok-front.ensures.answers.0)

pub returns-clause-moves : goal.returns-clause-moves
returns-clause-moves g c =
    let state = c.self.inside.state in
    let plan = answers-fault (plan_fault state c.args.proxy c.args.advance) c.in_ok-ticket.ticket
    (λ (ticket : Ticket). ticket ≡ planned state c.args.proxy c.args.advance) c.in_ok-ticket.ensures in
    its-moves c.self.inside.front c.asked.inside.batch state c.in_ok-ticket.ticket c.in_ok-entry.entry
    c.in_ok-front.front
    c.in_ok-entry.ensures c.in_ok-front.ensures.answers.1 c.args.proxy c.args.advance
    c.self.invariant.0 plan.1

pub append-requires-clause-moves : goal.append-requires-clause-moves
append-requires-clause-moves g c =
    let state = c.self.inside.state in
    let plan = answers-fault (plan_fault state c.args.proxy c.args.advance) c.in_ok-ticket.ticket
    (λ (ticket : Ticket). ticket ≡ planned state c.args.proxy c.args.advance) c.in_ok-ticket.ensures in
    subst (AllByRecursion (λ (move : Move). move.to < suc (length g.B.DatabaseName.config.resolver_splits)))
    (sym (ap (λ (entry : Entry). entry.moves) c.in_ok-entry.ensures
    ∙ ap (λ (ticket : Ticket). ticket.pending) plan.1))
    (subst (λ (n : ℕ). AllByRecursion (λ (move : Move). move.to < n) state.pending) c.self.invariant.2
    c.self.invariant.0.targets)

pub returns-clause-answers : goal.returns-clause-answers
returns-clause-answers g c =
    let capacity = length g.B.BookName.cells in
    let state = c.self.inside.state in
    let plan = answers-fault (plan_fault state c.args.proxy c.args.advance) c.in_ok-ticket.ticket
    (λ (ticket : Ticket). ticket ≡ planned state c.args.proxy c.args.advance) c.in_ok-ticket.ensures in
    let entry-is = c.in_ok-entry.ensures
    ∙ ap (λ (ticket : Ticket). entry_of ticket c.asked.inside.batch) plan.1 in
    let Issues : SequencerAtFront → BatchAtFront → Type 0 =
    λ it asked. (plan_fault it.state c.args.proxy c.args.advance ≡ None)
    × (append_fault capacity it.front (entry_of (planned it.state c.args.proxy c.args.advance) asked.batch) ≡ None)
    × ((c.in_ok-ticket.ticket ≡ planned it.state c.args.proxy c.args.advance)
    × (c.in_ok-front.front
    ≡ it.front ++ entry_of (planned it.state c.args.proxy c.args.advance) asked.batch ∷ [])) in
    subst (λ (it : SequencerAtFront). Issues it c.args.asked) c.self.view_is
    (subst (Issues (record { front = c.self.inside.front; state = state })) c.asked.view_is (
      plan.0,
      subst (λ (entry : Entry). append_fault capacity c.self.inside.front entry ≡ None) entry-is
          c.in_ok-front.ensures.answers.0,
      (
        plan.1,
        c.in_ok-front.ensures.answers.1 ∙ ap (λ (entry : Entry). c.self.inside.front ++ entry ∷ []) entry-is,
      ),
    ))
