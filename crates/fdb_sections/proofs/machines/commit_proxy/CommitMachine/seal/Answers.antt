use Rattle.std.proofs.Common.{◌≡◌, sym, subst, take, List}
use Rattle.fdb_txn.specs.Limits.{place_limit}
use Rattle.fdb_txn.specs.declared.entry.Entry.{Entry}
use Rattle.fdb_txn.specs.book.Transactions.{Transaction}
use Rattle.fdb_proxy.specs.CommitProxies.{seal_fault, sealing}
use Rattle.fdb_roles.proofs.Exports.{answers-fault}
use Rattle.fdb_sections.specs.Asking.{AreAsked, HasAsked}
use Rattle.fdb_sections.proofs.AskedProxyLemmas.{batch-asked, seal-asked}
use Rattle.fdb_sections.proofs.machines.commit_proxy.CommitMachine.seal.Goals as goal

pub invariant_of-self : goal.invariant_of-self
invariant_of-self g c =
    subst (HasAsked g.B.DatabaseName.allows g.B.DatabaseName.config.resolver_splits c.self.inside.asked)
    (sym c.in_err-batch.ensures.refused) c.self.invariant

pub new-requires : goal.new-requires
new-requires g c =
    let allows = g.B.DatabaseName.allows in
    let splits = g.B.DatabaseName.config.resolver_splits in
    let p = c.self.inside.at.state.proxy in
    let sealed = answers-fault (seal_fault p) c.in_ok-batch.batch
    (λ batch. (batch ≡ take place_limit p.waiting) × (c.seal.new.self.state.proxy ≡ sealing p))
    c.in_ok-batch.ensures.answers in
    subst (λ (batch : List Transaction). ∥ AreAsked allows splits c.in_ok-asked.asked batch ∥₁) (sym sealed.1.0)
    (subst (λ (front : List Entry). ∥ AreAsked allows splits front (take place_limit p.waiting) ∥₁)
    (sym c.in_ok-asked.ensures) (batch-asked allows splits c.self.inside.asked p c.self.invariant))

pub invariant_of-self-2 : goal.invariant_of-self-2
invariant_of-self-2 g c =
    let p = c.self.inside.at.state.proxy in
    let sealed = answers-fault (seal_fault p) c.in_ok-batch.batch
    (λ batch. (batch ≡ take place_limit p.waiting) × (c.seal.new.self.state.proxy ≡ sealing p))
    c.in_ok-batch.ensures.answers in
    subst (HasAsked g.B.DatabaseName.allows g.B.DatabaseName.config.resolver_splits c.self.inside.asked) (sym
    sealed.1.1)
    (seal-asked g.B.DatabaseName.allows g.B.DatabaseName.config.resolver_splits c.self.inside.asked p c.self.invariant)
