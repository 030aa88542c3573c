use Rattle.std.proofs.Common.{sym, subst}
use Rattle.fdb_proxy.specs.CommitProxies.{ProxyWithRoom, IsNewProxy, new_fault}
use Rattle.fdb_roles.proofs.Exports.{answers-fault}
use Rattle.fdb_sections.proofs.CommitProxyLemmas.{begins}
use Rattle.fdb_sections.proofs.roles.commit_proxy.CommitProxyAt.new.Goals as goal

pub returns : goal.returns
returns g c =
    let told = answers-fault (new_fault c.args.index c.args.config.now) c.in_ok-state.state _ c.in_ok-state.ensures in
    let given = c.in_ok-state-2.ensures.given in
    rw told.0 (
      rw given.1 at c.empty.ensures,
      subst (λ (state : ProxyWithRoom). IsNewProxy c.args.index c.args.config.now state.proxy) (sym given.0) told.1,
    )

pub invariant_of-result : goal.invariant_of-result
invariant_of-result g c =
    let told = answers-fault (new_fault c.args.index c.args.config.now) c.in_ok-state.state _ c.in_ok-state.ensures in
    let given = c.in_ok-state-2.ensures.given in
    begins g.B.DatabaseName.config c.args.config.now c.args.index c.in_ok-state-2.front c.new-2.result
    c.in_ok-state-2.state.proxy
    (rw given.1 at c.empty.ensures) c.requires
    (subst (λ (state : ProxyWithRoom). IsNewProxy c.args.index c.args.config.now state.proxy) (sym given.0) told.1)
