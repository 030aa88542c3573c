use Rattle.std.proofs.Common.{sym, subst}
use Rattle.fdb_sections.specs.Asking.{HasAsked}
use Rattle.fdb_sections.proofs.AskedProxyLemmas.{unseal-asked}
use Rattle.fdb_sections.proofs.machines.commit_proxy.CommitMachine.unissued.Goals as goal

pub invariant_of-self : goal.invariant_of-self
invariant_of-self g c =
    subst (HasAsked g.B.DatabaseName.allows g.B.DatabaseName.config.resolver_splits c.self.inside.asked)
    (sym c.unseal.ensures.proxy)
    (unseal-asked g.B.DatabaseName.allows g.B.DatabaseName.config.resolver_splits c.self.inside.asked
    c.self.inside.at.state.proxy c.self.invariant)

pub invariant_of-self-in_default : goal.invariant_of-self-in_default
invariant_of-self-in_default g c =
    subst (HasAsked g.B.DatabaseName.allows g.B.DatabaseName.config.resolver_splits c.self.inside.asked)
    (sym c.unseal.ensures.proxy)
    (unseal-asked g.B.DatabaseName.allows g.B.DatabaseName.config.resolver_splits c.self.inside.asked
    c.self.inside.at.state.proxy c.self.invariant)
