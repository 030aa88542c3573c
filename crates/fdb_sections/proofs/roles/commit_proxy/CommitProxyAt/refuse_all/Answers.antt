use Rattle.fdb_sections.proofs.CommitProxyLemmas.{drops}
use Rattle.fdb_sections.proofs.roles.commit_proxy.CommitProxyAt.refuse_all.Goals as goal

pub invariant_of-self : goal.invariant_of-self
invariant_of-self g c =
    drops g.B.DatabaseName.config c.self.inside.front c.self.inside.conflicts c.self.inside.state.proxy
    c.refuse_all.new.self.proxy c.refuse_all.ensures.left c.self.invariant
