use Rattle.std.proofs.Common.{◌+◌, arith}
use Rattle.fdb_keys.specs.Ranges.{in_range}
use Rattle.fdb_owners.proofs.OwnersLemmas.{readers-answers}
use Rattle.fdb_owners.proofs.owners.Owners.readers.Goals as goal

pub returns : goal.returns
returns c =
    readers-answers c.self.inside.splits c.self.inside.pieces c.self.inside.last c.self.inside.floor c.self.invariant.1
    c.self.invariant.2 c.args.self.now c.self.view_is (in_range c.args.range.now) c.args.from (c.args.from + 1)
    c.args.version (omega arith) c.requires.order c.parts_of.result c.parts_of.ensures
