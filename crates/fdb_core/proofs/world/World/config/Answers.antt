use Rattle.fdb_core.proofs.world.World.config.Goals as goal

pub returns-clause-legal : goal.returns-clause-legal
returns-clause-legal c = c.self.invariant.2
