use Rattle.std.proofs.Common.{◌≡◌}
use Rattle.fdb_sequencer.specs.Sequencer.{Sequencer, new_fault, fresh}
use Rattle.fdb_roles.proofs.Exports.{answers-fault}
use Rattle.fdb_sections.proofs.IssueLemmas.{starts}
use Rattle.fdb_sections.proofs.roles.sequencer.SequencerAt.new.Goals as goal

pub invariant_of-result : goal.invariant_of-result
invariant_of-result g c =
    starts g.B.DatabaseName.config c.in_ok-front.front c.in_ok-state.state c.args.proxies c.args.resolvers
    c.in_ok-front.ensures (answers-fault (new_fault c.args.proxies c.args.resolvers 0) c.in_ok-state.state
    (λ (state : Sequencer). state ≡ fresh c.args.proxies c.args.resolvers 0) c.in_ok-state.ensures).1
    c.requires.proxies c.requires.resolvers
