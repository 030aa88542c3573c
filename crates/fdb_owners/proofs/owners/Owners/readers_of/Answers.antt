use Rattle.std.proofs.Common.{◌+◌, arith}
use Rattle.fdb_keys.specs.Ranges.{in_set}
use Rattle.fdb_owners.proofs.OwnersLemmas.{readers-answers}
use Rattle.fdb_owners.proofs.owners.Owners.readers_of.Goals as goal

pub returns : goal.returns
returns c =
    readers-answers c.self.inside.splits c.self.inside.pieces c.self.inside.last c.self.inside.floor c.self.invariant.1
    c.self.invariant.2 c.args.self.now c.self.view_is (in_set c.args.set.now) c.args.from (c.args.from + 1)
    c.args.version (omega arith) c.requires.order c.spread.result c.spread.ensures
