use Rattle.std.proofs.Common.{◌≡◌, ◌∙◌, sym, ap, subst, refl, suc, ◌+◌, ◌∷◌, drop, arith, add-one, drop-cons}
use Rattle.std.specs.List.{AllByRecursion}
use Rattle.fdb_txn.specs.declared.entry.Move.{Move}
use Rattle.fdb_owners.specs.Learning.{HasBounds}
use Rattle.fdb_owners.proofs.SplitLemmas.{split-same, split-more}
use Rattle.fdb_owners.proofs.learning.split_all.Goals as goal

pub loop-one_move-init : goal.loop-one_move-init
loop-one_move-init c = record {
  split = split-same c.args.pieces.now c.args.pieces.now refl refl;
  bounds = λ others split all. all;
}

pub loop-one_move-preserved : goal.loop-one_move-preserved
loop-one_move-preserved c =
    let moves = c.args.moves.now in
    let i = c.loop-one_move.one_move-index in
    let move : Move = c.one_move-item.result in
    let left : drop i moves ≡ move ∷ drop (i + 1) moves =
    rw add-one (drop-cons moves i move (omega arith)
    ∙ ap (λ (first : Move). first ∷ drop (suc i) moves) (sym c.one_move-item.is)) in
    let there : HasBounds c.split_bounds.new.pieces move.range = c.in_ok-split_bounds.ensures.there in
    record {
      split = split-more c.args.pieces.now c.loop-one_move.pieces c.split_bounds.new.pieces
          c.loop-one_move.invariant.split c.split_bounds.ensures.split;
      bounds = λ others split rest. c.loop-one_move.invariant.bounds others
          (split-more c.loop-one_move.pieces c.split_bounds.new.pieces others c.split_bounds.ensures.split split)
          (subst (AllByRecursion (λ (move : Move). HasBounds others move.range)) (sym left)
          ((split.breaks move.range.begin there.0, split.breaks move.range.end there.1), rest));
    }

pub returns-in_err-split_bounds-clause-split : goal.returns-in_err-split_bounds-clause-split
returns-in_err-split_bounds-clause-split c =
    split-more c.args.pieces.now c.loop-one_move.pieces c.split_bounds.new.pieces c.loop-one_move.invariant.split
    c.split_bounds.ensures.split
