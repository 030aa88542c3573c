use Rattle.fdb_core.proofs.refinement.commit_proxy.StateDeciding.{takes-verdicts}
use Rattle.fdb_core.proofs.roles.commit_proxy.CommitProxyRole.verdict.Goals as goal

pub returns-clause-answers : goal.returns-clause-answers
returns-clause-answers c config book known entry ok said =
    takes-verdicts config book known c.args.self.now ok c.args.verdicts entry said c.verdict.result
    c.verdict.new.self c.verdict.ensures.answers
