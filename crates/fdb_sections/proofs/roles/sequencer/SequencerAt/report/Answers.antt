use Rattle.fdb_sections.proofs.IssueLemmas.{reported}
use Rattle.fdb_sections.proofs.roles.sequencer.SequencerAt.report.Goals as goal

pub invariant_of-self : goal.invariant_of-self
invariant_of-self g c =
    reported g.B.DatabaseName.config c.self.inside.front c.version.result c.self.inside.state c.report.new.self
    c.report.result c.report.ensures.answers c.report.ensures.err c.self.invariant

pub invariant_of-self-2 : goal.invariant_of-self-2
invariant_of-self-2 g c =
    reported g.B.DatabaseName.config c.self.inside.front c.version.result c.self.inside.state c.report.new.self
    c.report.result c.report.ensures.answers c.report.ensures.err c.self.invariant
