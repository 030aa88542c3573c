use Rattle.std.proofs.Common.{sym, subst}
use Rattle.fdb_sections.specs.Asking.{HasAsked}
use Rattle.fdb_sections.proofs.AskedProxyLemmas.{has-longer, one-longer, submit-asked}
use Rattle.fdb_sections.proofs.machines.commit_proxy.CommitMachine.submit.Goals as goal

pub invariant_of-self-in-Err : goal.invariant_of-self-in-Err
invariant_of-self-in-Err g c =
    let allows = g.B.DatabaseName.allows in
    let config = g.B.DatabaseName.config in
    subst (HasAsked allows config.resolver_splits c.keep_longer.new.own) (sym c.in-Err.ensures.refused)
    (has-longer allows config c.self.inside.asked c.keep_longer.new.own c.keep_longer.ensures.entries
    c.keep_longer.ensures.longer.0 c.self.inside.at.state.proxy c.self.invariant)

pub invariant_of-self-2 : goal.invariant_of-self-2
invariant_of-self-2 g c =
    let allows = g.B.DatabaseName.allows in
    let config = g.B.DatabaseName.config in
    let longer = c.keep_longer.new.own in
    let entries = c.keep_longer.ensures.entries in
    let p = c.self.inside.at.state.proxy in
    subst (HasAsked allows config.resolver_splits longer) (sym c.in_default.ensures.taken.1)
    (submit-asked allows config.resolver_splits longer c.self.inside.phase p c.asked.inside.sealed
    (has-longer allows config c.self.inside.asked longer entries c.keep_longer.ensures.longer.0 p c.self.invariant)
    (one-longer allows config c.asked.inside.front longer entries c.keep_longer.ensures.longer.1 c.asked.inside.sealed
    c.asked.invariant))
