use Rattle.fdb_machine.proofs.Exports.{serializable-step}
use Rattle.fdb_core.proofs.world.World.step.Goals as goal

pub returns-clause-headline : goal.returns-clause-headline
returns-clause-headline c config steps given stands =
    serializable-step config steps given c.args.self.now c.take-answer.new.self c.args.step c.take-answer.result
    c.take-answer.ensures.step
    c.take-answer.ensures.roles stands
