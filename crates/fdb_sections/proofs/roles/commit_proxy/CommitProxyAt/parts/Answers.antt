use Rattle.std.proofs.Common.{subst, IfOk}
use Rattle.fdb_sections.specs.CommitProxiesAtFronts.{CommitProxyAtFront, AreLastParts}
use Rattle.fdb_sections.proofs.CommitProxyLemmas.{sends-parts}
use Rattle.fdb_sections.proofs.roles.commit_proxy.CommitProxyAt.parts.Goals as goal

pub returns-clause-sent : goal.returns-clause-sent
returns-clause-sent g c =
    subst (λ (at : CommitProxyAtFront). IfOk c.parts.result (AreLastParts g.B.DatabaseName.config at.front))
    c.self.view_is
    (sends-parts g.B.DatabaseName.config c.self.inside.front c.self.inside.state.proxy c.parts.result
    c.self.invariant.0
    c.parts.ensures)
