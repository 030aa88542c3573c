use Rattle.fdb_owners.proofs.OwnersLemmas.{owner-answers}
use Rattle.fdb_owners.proofs.owners.Owners.owner.Goals as goal

pub returns-clause-value : goal.returns-clause-value
returns-clause-value c =
    (owner-answers c.self.inside.splits c.self.inside.pieces c.self.inside.last c.self.inside.floor c.self.invariant.1
    c.self.invariant.2 c.args.self.now c.self.view_is c.args.key.now c.history_of.result.now c.owner_now.result
    c.history_of.ensures c.owner_now.ensures).0

pub returns-clause-within : goal.returns-clause-within
returns-clause-within c =
    (owner-answers c.self.inside.splits c.self.inside.pieces c.self.inside.last c.self.inside.floor c.self.invariant.1
    c.self.invariant.2 c.args.self.now c.self.view_is c.args.key.now c.history_of.result.now c.owner_now.result
    c.history_of.ensures c.owner_now.ensures).1
