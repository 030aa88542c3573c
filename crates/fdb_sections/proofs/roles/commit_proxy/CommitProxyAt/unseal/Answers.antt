use Rattle.fdb_sections.proofs.CommitProxyLemmas.{unseals}
use Rattle.fdb_sections.proofs.roles.commit_proxy.CommitProxyAt.unseal.Goals as goal

pub invariant_of-self : goal.invariant_of-self
invariant_of-self g c =
    unseals g.B.DatabaseName.config c.self.inside.front c.self.inside.conflicts c.self.inside.state.proxy
    c.unseal.new.self.proxy c.unseal.ensures c.self.invariant
