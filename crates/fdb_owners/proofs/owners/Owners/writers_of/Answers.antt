use Rattle.fdb_keys.specs.Ranges.{in_set}
use Rattle.fdb_owners.proofs.OwnersLemmas.{writers-answers}
use Rattle.fdb_owners.proofs.owners.Owners.writers_of.Goals as goal

pub returns : goal.returns
returns c =
    writers-answers c.self.inside.splits c.self.inside.pieces c.self.inside.last c.self.inside.floor c.self.invariant.1
    c.self.invariant.2 c.args.self.now c.self.view_is (in_set c.args.set.now) c.spread.result c.spread.ensures
