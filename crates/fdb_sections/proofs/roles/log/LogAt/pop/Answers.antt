use Rattle.fdb_sections.proofs.LogLemmas.{log-popped}
use Rattle.fdb_sections.proofs.roles.log.LogAt.pop.Goals as goal

pub invariant_of-self : goal.invariant_of-self
invariant_of-self g c =
    log-popped g.B.DatabaseName.config c.self.inside.front c.args.tag c.args.through c.self.inside.state c.pop.new.self
    c.pop.result c.pop.ensures.answers c.pop.ensures.refused c.self.invariant
