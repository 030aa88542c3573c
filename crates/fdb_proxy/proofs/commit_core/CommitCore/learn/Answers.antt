use Rattle.std.proofs.Common.{◌≡◌, sym, subst, None}
use Rattle.std.specs.Prelude.{⊤}
use Rattle.fdb_proxy.specs.CommitFields.{proxy_of}
use Rattle.fdb_proxy.specs.CommitProxies.{ProxyWithRoom, learn_fault}
use Rattle.fdb_proxy.proofs.TicketLemmas.{moves-above, given-none}
use Rattle.fdb_proxy.proofs.commit_core.CommitCore.learn.Goals as goal

pub resolve-requires-clause-above : goal.resolve-requires-clause-above
resolve-requires-clause-above c =
    let none = given-none {T = ⊤} (learn_fault c.args.self.now.proxy c.args.ticket.now) tt (λ (given : ⊤). ⊤)
    c.in_ok-check_ticket.ensures in
    moves-above (proxy_of c.self.inside) c.args.ticket.now
    (subst (λ (kept : ProxyWithRoom). learn_fault kept.proxy c.args.ticket.now ≡ None) (sym c.self.view_is) none)
    c.self.invariant.learnt
