use Rattle.fdb_sections.proofs.CommitProxyLemmas.{logged-or-stays}
use Rattle.fdb_sections.proofs.roles.commit_proxy.CommitProxyAt.logged.Goals as goal

pub invariant_of-self : goal.invariant_of-self
invariant_of-self g c =
    logged-or-stays g.B.DatabaseName.config c.self.inside.front c.self.inside.conflicts c.self.inside.state
    c.logged.new.self c.ack.result c.logged.result c.logged.ensures.answers c.logged.ensures.refused c.self.invariant
