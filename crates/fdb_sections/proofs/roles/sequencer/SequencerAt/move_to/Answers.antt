use Rattle.fdb_sections.proofs.IssueLemmas.{moved}
use Rattle.fdb_sections.proofs.roles.sequencer.SequencerAt.move_to.Goals as goal

pub invariant_of-self : goal.invariant_of-self
invariant_of-self g c =
    moved g.B.DatabaseName.config c.self.inside.front c.args.one_move c.self.inside.state c.move_to.new.self
    c.move_to.result c.move_to.ensures.answers c.move_to.ensures.err c.self.invariant
