use Rattle.std.proofs.Common.{◌≡◌, sym, ap, subst, Some}
use Rattle.std.proofs.lemmas.Result.{err_from_is_err_and}
use Rattle.fdb_proxy.specs.CommitProxies.{with_logged}
use Rattle.fdb_roles.proofs.Exports.{given-fault, refused-fault}
use Rattle.fdb_sections.specs.Asking.{HasAsked}
use Rattle.fdb_sections.specs.CommitMachines.{CommitMachine}
use Rattle.fdb_sections.specs.CommitProxiesAtFronts.{CommitProxyAtFront, ack_fault}
use Rattle.fdb_sections.proofs.AskedProxyLemmas.{refuses-exactly}
use Rattle.fdb_sections.proofs.machines.commit_proxy.CommitMachine.logged.Goals as goal

pub invariant_of-self : goal.invariant_of-self
invariant_of-self g c =
    subst (HasAsked g.B.DatabaseName.allows g.B.DatabaseName.config.resolver_splits c.self.inside.asked)
    (sym (ap (λ (at : CommitProxyAtFront). at.state.proxy) c.in_err-logged.ensures.refused)) c.self.invariant

pub returns-in_err-logged-clause-answers : goal.returns-in_err-logged-clause-answers
returns-in_err-logged-clause-answers g c =
    let left = err_from_is_err_and c.from_residual.result c.from_residual.ensures.1 in
    rw (left.1, left.2)
    (refuses-exactly (ack_fault c.args.self.now.front c.args.self.now.proxy c.args.message.now)
    c.in_err-logged.field-0.0 _
    (subst (λ (it : CommitMachine g.row.B.Denot g.row.W.Denot).
    ack_fault it.front it.proxy c.args.message.now ≡ Some c.in_err-logged.field-0.0) c.self.view_is
    (refused-fault (ack_fault c.self.inside.at.front c.self.inside.at.state.proxy c.args.message.now)
    c.in_err-logged.field-0.0 _ c.in_err-logged.ensures.answers)))

pub invariant_of-self-then-self-eq0 : goal.invariant_of-self-then-self-eq0
invariant_of-self-then-self-eq0 g c =
    let p = c.self.inside.at.state.proxy in
    let takes = given-fault (ack_fault c.self.inside.at.front p c.args.message.now) c.in_ok-logged.field-0
    (λ _. c.logged.new.self.state.proxy ≡ with_logged p c.args.message.now.ack) c.in_ok-logged.ensures.answers in
    subst (HasAsked g.B.DatabaseName.allows g.B.DatabaseName.config.resolver_splits c.self.inside.asked) (sym takes.1)
    c.self.invariant

pub invariant_of-self-else-self-eq0 : goal.invariant_of-self-else-self-eq0
invariant_of-self-else-self-eq0 g c =
    let p = c.self.inside.at.state.proxy in
    let takes = given-fault (ack_fault c.self.inside.at.front p c.args.message.now) c.in_ok-logged.field-0
    (λ _. c.logged.new.self.state.proxy ≡ with_logged p c.args.message.now.ack) c.in_ok-logged.ensures.answers in
    subst (HasAsked g.B.DatabaseName.allows g.B.DatabaseName.config.resolver_splits c.self.inside.asked) (sym takes.1)
    c.self.invariant
