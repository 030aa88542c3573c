use Rattle.std.proofs.Common.{subst, IfOk}
use Rattle.fdb_sections.specs.CommitProxiesAtFronts.{CommitProxyAtFront, AreLastMessages}
use Rattle.fdb_sections.proofs.CommitProxyLemmas.{sends-messages}
use Rattle.fdb_sections.proofs.roles.commit_proxy.CommitProxyAt.messages.Goals as goal

pub returns-clause-sent : goal.returns-clause-sent
returns-clause-sent g c =
    subst (λ (at : CommitProxyAtFront). IfOk c.messages.result (AreLastMessages g.B.DatabaseName.config at.front))
    c.self.view_is
    (sends-messages g.B.DatabaseName.config c.self.inside.front c.self.inside.state.proxy c.messages.result
    c.self.invariant.0 c.messages.ensures)
