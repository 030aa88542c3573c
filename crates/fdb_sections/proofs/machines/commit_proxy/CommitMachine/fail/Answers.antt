use Rattle.std.proofs.Common.{◌∙◌, ap}
use Rattle.fdb_proxy.specs.CommitProxies.{CommitProxy}
use Rattle.fdb_sections.proofs.AskedProxyLemmas.{refuse-asked}
use Rattle.fdb_sections.proofs.machines.commit_proxy.CommitMachine.fail.Goals as goal

pub invariant_of-self : goal.invariant_of-self
invariant_of-self g c =
    refuse-asked g.B.DatabaseName.allows g.B.DatabaseName.config.resolver_splits c.self.inside.asked
    c.self.inside.at.state.proxy c.refuse_all.new.self.state.proxy
    (ap (λ (p : CommitProxy). p.waiting) c.refuse_all.ensures.left)
    (ap (λ (p : CommitProxy). p.batch) c.refuse_all.ensures.left
    ∙ ap (λ (p : CommitProxy). p.batch) c.fail.ensures.proxy) c.self.invariant
