use Rattle.fdb_role_tests.proofs.growths.learn.Goals as goal

pub learn-requires : goal.learn-requires
learn-requires c = c.requires.ticket c.args.core.now.proxy c.requires.batch c.requires.floor
