use Rattle.std.proofs.Common.{◌≡◌, ◌∙◌, sym, subst, rules, List, Err}
use Rattle.fdb_txn.specs.book.Transactions.{Transaction}
use Rattle.fdb_proxy.specs.CommitProxies.{learn_fault}
use Rattle.fdb_roles.proofs.Exports.{answers-fault}
use Rattle.fdb_sections.specs.CommitProxiesAtFronts.{CommitProxyAtFront}
use Rattle.fdb_sections.specs.Ticketing.{IsTicketOf, AnswersTicket}
use Rattle.fdb_sections.proofs.TicketingLemmas.{may-learn, is-there, refused-as, refused-there}
use Rattle.fdb_sections.proofs.roles.commit_proxy.CommitProxyAt.learn.Goals as goal

pub learn-requires : goal.learn-requires
learn-requires g c =
    let is : IsTicketOf c.self.inside.front c.args.front c.self.inside.state.proxy.batch c.args.ticket.now =
    subst (λ (places : List Transaction). IsTicketOf c.self.inside.front c.args.front places c.args.ticket.now)
    c.batch.ensures.value (c.is_ticket_of.ensures.0 c.if-not-is_ticket_of.false) in
    may-learn g.B.DatabaseName.config c.self.inside.front c.args.front c.self.inside.state.proxy c.args.ticket.now is
    c.know_one_book.ensures.shorter c.know_entries.ensures c.know_horizons.ensures
    (c.self.invariant.0 (sym c.is_failed.ensures ∙ c.if-is_failed.false))

pub invariant_of-self : goal.invariant_of-self
invariant_of-self g c =
    refused-there g.B.DatabaseName.config c.self.inside.front c.self.inside.conflicts c.self.inside.state.proxy
    c.learn.new.self.proxy c.args.ticket.now c.self.invariant c.in_err-learn.ensures.refused
    c.in_err-learn.ensures.failed

pub returns-in_err-learn-clause-answers : goal.returns-in_err-learn-clause-answers
returns-in_err-learn-clause-answers g c =
    let is : IsTicketOf c.self.inside.front c.args.front c.self.inside.state.proxy.batch c.args.ticket.now =
    subst (λ (places : List Transaction). IsTicketOf c.self.inside.front c.args.front places c.args.ticket.now)
    c.batch.ensures.value (c.is_ticket_of.ensures.0 c.if-not-is_ticket_of.false) in
    let same : c.from_residual.result ≡ Err c.in_err-learn.field-0.0 = search rules in
    subst (λ (at : CommitProxyAtFront).
    AnswersTicket c.from_residual.result at.front c.args.front at.state.proxy c.args.ticket.now) c.self.view_is
    (rw same (refused-as g.B.DatabaseName.config c.self.inside.front c.args.front c.self.inside.state.proxy
    c.args.ticket.now is c.know_one_book.ensures.shorter c.know_entries.ensures c.know_horizons.ensures
    (c.self.invariant.0 (sym c.is_failed.ensures ∙ c.if-is_failed.false)) _ c.in_err-learn.field-0.0 _
    c.in_err-learn.ensures.answers))

pub invariant_of-self-2 : goal.invariant_of-self-2
invariant_of-self-2 g c =
    let is : IsTicketOf c.self.inside.front c.args.front c.self.inside.state.proxy.batch c.args.ticket.now =
    subst (λ (places : List Transaction). IsTicketOf c.self.inside.front c.args.front places c.args.ticket.now)
    c.batch.ensures.value (c.is_ticket_of.ensures.0 c.if-not-is_ticket_of.false) in
    is-there g.B.DatabaseName.config c.self.inside.front c.args.front c.self.inside.state.proxy c.args.ticket.now is
    c.know_one_book.ensures.shorter c.know_entries.ensures c.know_horizons.ensures
    (c.self.invariant.0 (sym c.is_failed.ensures ∙ c.if-is_failed.false)) c.self.inside.conflicts
    c.learn.new.self.proxy
    (answers-fault (learn_fault c.self.inside.state.proxy c.args.ticket.now) c.in_ok-learn.field-0 _
    c.in_ok-learn.ensures.answers).1
