use Rattle.std.proofs.Common.{None, arith}
use Rattle.fdb_keys.specs.Ranges.{in_range}
use Rattle.fdb_owners.proofs.AnswersLemmas.{answers-also}
use Rattle.fdb_owners.proofs.OwnersLemmas.{settled-seen, writers-answers}
use Rattle.fdb_owners.proofs.owners.Owners.writers.Goals as goal

pub returns-clause-settled : goal.returns-clause-settled
returns-clause-settled c =
    settled-seen c.self.inside.splits c.self.inside.pieces c.self.inside.last c.self.inside.floor c.self.invariant.1
    c.self.invariant.2 c.args.self.now c.self.view_is

pub returns-clause-parts : goal.returns-clause-parts
returns-clause-parts c =
    answers-also c.parts_of.result None _ _ (λ parts are. are c.args.self.now.last (omega arith))
    (writers-answers c.self.inside.splits c.self.inside.pieces c.self.inside.last c.self.inside.floor
    c.self.invariant.1 c.self.invariant.2 c.args.self.now c.self.view_is (in_range c.args.range.now) c.parts_of.result
    c.parts_of.ensures)
