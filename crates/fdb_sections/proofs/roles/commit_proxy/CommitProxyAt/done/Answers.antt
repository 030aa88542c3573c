use Rattle.std.proofs.Common.{subst, IfOk}
use Rattle.fdb_sections.specs.CommitProxiesAtFronts.{CommitProxyAtFront, AreOutcomes}
use Rattle.fdb_sections.proofs.CommitProxyLemmas.{finishes}
use Rattle.fdb_sections.proofs.roles.commit_proxy.CommitProxyAt.done.Goals as goal

pub invariant_of-self : goal.invariant_of-self
invariant_of-self g c =
    (finishes g.B.DatabaseName.config c.self.inside.front c.self.inside.conflicts c.self.inside.state.proxy
    c.done.new.self.proxy c.done.result c.self.invariant c.done.ensures.answers c.done.ensures.refused).1

pub returns-clause-told : goal.returns-clause-told
returns-clause-told g c =
    subst (λ (at : CommitProxyAtFront). IfOk c.done.result
    (AreOutcomes g.B.DatabaseName.config at.front at.conflicts))
    c.self.view_is
    (finishes g.B.DatabaseName.config c.self.inside.front c.self.inside.conflicts c.self.inside.state.proxy
    c.done.new.self.proxy c.done.result c.self.invariant c.done.ensures.answers c.done.ensures.refused).0
