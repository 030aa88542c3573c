use Rattle.std.proofs.Common.{◌∙◌}
use Rattle.fdb_core.proofs.refinement.commit_proxy.StateStages.{finishes}
use Rattle.fdb_core.proofs.roles.commit_proxy.CommitProxyRole.finish.Goals as goal

pub returns : goal.returns
returns c config book known entry ok reported there =
    finishes config book known c.args.self.now ok entry reported there c.done.new.self c.replace-transcripts.result
    c.in_ok-answers.answers c.replace-transcripts.new.dest c.in_ok-answers.ensures.answers
    c.replace-transcripts.ensures.value (c.replace-transcripts.ensures.after ∙ c.new.ensures)
