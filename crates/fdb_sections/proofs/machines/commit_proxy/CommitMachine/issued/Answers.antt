use Rattle.fdb_sections.proofs.AskedProxyLemmas.{left-asked}
use Rattle.fdb_sections.proofs.machines.commit_proxy.CommitMachine.issued.Goals as goal

pub invariant_of-self : goal.invariant_of-self
invariant_of-self g c =
    left-asked g.B.DatabaseName.allows g.B.DatabaseName.config.resolver_splits c.self.inside.asked
    c.learn.result c.self.inside.at c.args.issued.ticket c.args.issued.front c.learn.new.self c.learn.ensures.left
    c.self.invariant

pub invariant_of-self-in_err-self-inside : goal.invariant_of-self-in_err-self-inside
invariant_of-self-in_err-self-inside g c =
    left-asked g.B.DatabaseName.allows g.B.DatabaseName.config.resolver_splits c.self.inside.asked
    c.learn.result c.self.inside.at c.args.issued.ticket c.args.issued.front c.learn.new.self c.learn.ensures.left
    c.self.invariant

pub invariant_of-self-2 : goal.invariant_of-self-2
invariant_of-self-2 g c =
    left-asked g.B.DatabaseName.allows g.B.DatabaseName.config.resolver_splits c.self.inside.asked
    c.learn.result c.self.inside.at c.args.issued.ticket c.args.issued.front c.learn.new.self c.learn.ensures.left
    c.self.invariant
