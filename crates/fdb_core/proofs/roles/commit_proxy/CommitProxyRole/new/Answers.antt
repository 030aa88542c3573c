use Rattle.std.proofs.Common.{false}
use Rattle.fdb_proxy.specs.CommitProxies.{IsNewProxy, ProxyWithRoom, new_fault}
use Rattle.fdb_roles.proofs.Exports.{answers-fault}
use Rattle.fdb_core.proofs.refinement.StartLemmas.{commit_proxy-start}
use Rattle.fdb_core.proofs.roles.commit_proxy.CommitProxyRole.new.Goals as goal

pub returns : goal.returns
returns c =
    commit_proxy-start c.args.index c.args.config.now _
    (answers-fault (new_fault c.args.index c.args.config.now) c.in_ok-state.state
    (λ (state : ProxyWithRoom). IsNewProxy c.args.index c.args.config.now state.proxy) c.in_ok-state.ensures).1
    (λ i. record {
      state = c.in_ok-state.state;
      waiting = c.new-2.ensures i;
      in_flight = c.new-3.ensures i;
      entry = 0;
      is_reported = false;
    })
