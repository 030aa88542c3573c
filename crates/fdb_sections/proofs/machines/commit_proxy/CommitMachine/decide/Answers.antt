use Rattle.std.proofs.Common.{◌≡◌, sym, ap, subst}
use Rattle.fdb_proxy.specs.CommitProxies.{decide_fault, deciding}
use Rattle.fdb_roles.proofs.Exports.{answers-fault}
use Rattle.fdb_sections.specs.Asking.{HasAsked}
use Rattle.fdb_sections.specs.CommitProxiesAtFronts.{CommitProxyAtFront}
use Rattle.fdb_sections.proofs.machines.commit_proxy.CommitMachine.decide.Goals as goal

pub invariant_of-self : goal.invariant_of-self
invariant_of-self g c =
    subst (HasAsked g.B.DatabaseName.allows g.B.DatabaseName.config.resolver_splits c.self.inside.asked)
    (sym (ap (λ (at : CommitProxyAtFront). at.state.proxy) c.in_err-decide.ensures.refused)) c.self.invariant

pub invariant_of-self-in_err-self-inside : goal.invariant_of-self-in_err-self-inside
invariant_of-self-in_err-self-inside g c =
    let p = c.self.inside.at.state.proxy in
    let decides = answers-fault (decide_fault p) c.in_ok-decide.field-0
    (λ _. c.decide.new.self.state.proxy ≡ deciding p) c.in_ok-decide.ensures.answers in
    subst (HasAsked g.B.DatabaseName.allows g.B.DatabaseName.config.resolver_splits c.self.inside.asked) (sym decides.1)
    c.self.invariant

pub invariant_of-self-2 : goal.invariant_of-self-2
invariant_of-self-2 g c =
    let p = c.self.inside.at.state.proxy in
    let decides = answers-fault (decide_fault p) c.in_ok-decide.field-0
    (λ _. c.decide.new.self.state.proxy ≡ deciding p) c.in_ok-decide.ensures.answers in
    subst (HasAsked g.B.DatabaseName.allows g.B.DatabaseName.config.resolver_splits c.self.inside.asked) (sym decides.1)
    c.self.invariant
