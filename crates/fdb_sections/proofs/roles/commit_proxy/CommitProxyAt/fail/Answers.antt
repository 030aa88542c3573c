use Rattle.fdb_sections.proofs.CommitProxyLemmas.{fails}
use Rattle.fdb_sections.proofs.roles.commit_proxy.CommitProxyAt.fail.Goals as goal

pub invariant_of-self : goal.invariant_of-self
invariant_of-self g c =
    fails g.B.DatabaseName.config c.self.inside.front c.self.inside.conflicts c.self.inside.state.proxy
    c.fail.new.self.proxy c.fail.ensures c.self.invariant
