use Rattle.fdb_sections.proofs.IssueLemmas.{windowed}
use Rattle.fdb_sections.proofs.roles.sequencer.SequencerAt.set_window.Goals as goal

pub invariant_of-self : goal.invariant_of-self
invariant_of-self g c =
    windowed g.B.DatabaseName.config c.self.inside.front c.args.window c.self.inside.state c.set_window.new.self
    c.set_window.result c.set_window.ensures.answers c.set_window.ensures.err c.self.invariant
