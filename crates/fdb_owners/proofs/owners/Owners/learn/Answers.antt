use Rattle.std.proofs.Common.{sym, subst, arith, suc, ◌<◌, length, All}
use Rattle.std.proofs.lemmas.List.Elements.{recursion_from_All}
use Rattle.fdb_txn.specs.declared.entry.Move.{Move}
use Rattle.fdb_owners.specs.Ownership.{Ownership, resolvers_of}
use Rattle.fdb_owners.proofs.OwnersLemmas.{learn-has, learn-answers}
use Rattle.fdb_owners.proofs.owners.Owners.learn.Goals as goal

pub invariant_of-self : goal.invariant_of-self
invariant_of-self c = (
  c.self.invariant.0,
  c.in_err-touched.ensures.kept (suc (length c.self.inside.splits)) c.self.inside.last c.self.invariant.1,
  c.learn_moves.ensures.rising c.self.invariant.2,
)

pub invariant_of-self-2 : goal.invariant_of-self-2
invariant_of-self-2 c =
    let targets =
    subst (λ (owners : Ownership). All (λ (move : Move). move.to < resolvers_of owners) c.args.moves.now)
    (sym c.self.view_is) c.requires in (
      c.self.invariant.0,
      c.in_ok-touched.ensures.pieces (suc (length c.self.inside.splits)) c.self.inside.last c.self.invariant.1
          (omega arith)
          (recursion_from_All (λ (move : Move). move.to < suc (length c.self.inside.splits)) c.args.moves.now targets),
      c.learn_moves.ensures.rising c.self.invariant.2,
    )

pub returns-clause-answers : goal.returns-clause-answers
returns-clause-answers c =
    learn-answers c.self.inside.splits c.self.inside.pieces c.learn_moves.new.pieces c.self.inside.last
    c.self.inside.floor c.args.version c.args.moves.now c.args.self.now tt c.self.view_is (omega arith)
    (learn-has c.self.inside.splits c.self.inside.pieces c.learn_moves.new.pieces c.self.inside.last
    c.self.inside.floor c.args.version c.args.moves.now c.self.invariant.1 c.self.invariant.2
    (c.learn_moves.ensures.rising c.self.invariant.2) (omega arith) c.in_ok-touched.ensures.owners)
