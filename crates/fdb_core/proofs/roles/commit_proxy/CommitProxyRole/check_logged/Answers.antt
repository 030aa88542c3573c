use Rattle.fdb_core.proofs.refinement.commit_proxy.StateStages.{checks-logged}
use Rattle.fdb_core.proofs.roles.commit_proxy.CommitProxyRole.check_logged.Goals as goal

pub returns-clause-answers : goal.returns-clause-answers
returns-clause-answers c config book known ok logging =
    checks-logged config book known c.args.self.now ok c.all_logged.result _ c.if-self.false logging
    c.all_logged.ensures
