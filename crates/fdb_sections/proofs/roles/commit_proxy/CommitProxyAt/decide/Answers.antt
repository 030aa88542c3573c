use Rattle.fdb_sections.proofs.CommitProxyLemmas.{decides}
use Rattle.fdb_sections.proofs.roles.commit_proxy.CommitProxyAt.decide.Goals as goal

pub invariant_of-self-2 : goal.invariant_of-self-2
invariant_of-self-2 g c =
    decides g.B.DatabaseName.config c.self.inside.front c.self.inside.state c.decide.new.self c.in_ok-conflicts.field-0
    c.self.invariant.0 c.know_entries.ensures c.in_ok-conflicts.ensures.answers
