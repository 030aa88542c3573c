use Rattle.fdb_core.proofs.refinement.commit_proxy.StateStages.{takes-acknowledgement}
use Rattle.fdb_core.proofs.roles.commit_proxy.CommitProxyRole.logged.Goals as goal

pub returns-clause-answers : goal.returns-clause-answers
returns-clause-answers c config book known ok exists =
    takes-acknowledgement config book known c.args.self.now ok c.args.ack exists c.logged.result c.logged.new.self
    c.logged.ensures.answers
