use Rattle.fdb_sections.proofs.CommitProxyLemmas.{seals-or-stays}
use Rattle.fdb_sections.proofs.roles.commit_proxy.CommitProxyAt.seal.Goals as goal

pub invariant_of-self : goal.invariant_of-self
invariant_of-self g c =
    seals-or-stays g.B.DatabaseName.config c.self.inside.front c.self.inside.conflicts c.self.inside.state
    c.seal.new.self c.seal.result c.seal.ensures.answers c.seal.ensures.refused c.self.invariant
