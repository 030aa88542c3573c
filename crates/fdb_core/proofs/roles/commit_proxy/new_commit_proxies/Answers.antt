use Rattle.std.proofs.Common.{ℕ}
use Rattle.fdb_core.specs.declared.roles.commit_proxy.CommitProxyRole.{CommitProxyRole}
use Rattle.fdb_core.specs.refinement.commit_proxy.Ties.{IsNewCommitProxy}
use Rattle.fdb_roles.proofs.Exports.{made-push}
use Rattle.fdb_core.proofs.roles.commit_proxy.new_commit_proxies.Goals as goal

pub loop-index-preserved : goal.loop-index-preserved
loop-index-preserved c = made-push (λ (i : ℕ) (role : CommitProxyRole). IsNewCommitProxy c.args.config.now role)
    c.loop-index.index c.loop-index.list.items c.push.new.self.items c.in_ok-new.field-0 c.in_ok-push.ensures.items
    c.loop-index.invariant.0 c.loop-index.invariant.1 c.in_ok-new.ensures
