use Rattle.std.proofs.Common.{subst}
use Rattle.std.specs.Option.{option_copied}
use Rattle.fdb_machine.specs.headline.Serving.{System}
use Rattle.fdb_machine.specs.machine.Conflicts.{IsConflictOf}
use Rattle.fdb_core.proofs.world.World.conflict.Goals as goal

pub returns : goal.returns
returns c = subst (λ (system : System). IsConflictOf system.state.machine c.args.session
    (option_copied c.conflict.result)) c.self.view_is c.conflict.ensures
