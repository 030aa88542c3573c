use Rattle.fdb_core.proofs.refinement.commit_proxy.StateDeciding.{decides-answers}
use Rattle.fdb_core.proofs.roles.commit_proxy.CommitProxyRole.decide.Goals as goal

pub returns-clause-decides : goal.returns-clause-decides
returns-clause-decides c config book known entry ok resolving_now there entries =
    decides-answers config book known c.args.self.now ok entry there entries resolving_now c.decide_with_messages.result
    c.decide_with_messages.new.self c.decide_with_messages.ensures.answers
