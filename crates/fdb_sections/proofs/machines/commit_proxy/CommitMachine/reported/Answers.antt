use Rattle.std.proofs.Common.{sym, subst, ⊎_elim}
use Rattle.fdb_sections.specs.Asking.{HasAsked}
use Rattle.fdb_sections.proofs.AskedProxyLemmas.{finish-asked}
use Rattle.fdb_sections.proofs.machines.commit_proxy.CommitMachine.reported.Goals as goal

pub invariant_of-self : goal.invariant_of-self
invariant_of-self g c =
    let p = c.self.inside.at.state.proxy in ⊎_elim
    (λ same. subst (HasAsked g.B.DatabaseName.allows g.B.DatabaseName.config.resolver_splits c.self.inside.asked)
    (sym same) c.self.invariant)
    (λ done. subst (HasAsked g.B.DatabaseName.allows g.B.DatabaseName.config.resolver_splits c.self.inside.asked)
    (sym done) (finish-asked g.B.DatabaseName.allows g.B.DatabaseName.config.resolver_splits c.self.inside.asked p
    c.self.invariant))
    c.in_err-self-inside.ensures.kept

pub invariant_of-self-2 : goal.invariant_of-self-2
invariant_of-self-2 g c =
    subst (HasAsked g.B.DatabaseName.allows g.B.DatabaseName.config.resolver_splits c.self.inside.asked)
    (sym c.in_ok-self-inside.ensures.taken.2)
    (finish-asked g.B.DatabaseName.allows g.B.DatabaseName.config.resolver_splits c.self.inside.asked
    c.self.inside.at.state.proxy c.self.invariant)
