use Rattle.std.proofs.Common.{◌≡◌, ◌||◌, ◌++◌, ◌∷◌, None, List, rules}
use Rattle.fdb_keys.specs.Points.{Point}
use Rattle.fdb_keys.specs.Ranges.{in_range, in_set}
use Rattle.fdb_txn.specs.declared.entry.Move.{Move}
use Rattle.fdb_owners.specs.Learning.{DecideSoFar, moves_to}
use Rattle.fdb_owners.proofs.AnswersLemmas.{answers-also}
use Rattle.fdb_owners.proofs.DecidingLemmas.{decide-more}
use Rattle.fdb_owners.proofs.deciding.add_decisive.Goals as goal

pub returns : goal.returns
returns c =
    let move = c.args.one_move.now in
    let covered = c.args.covered.now in
    let decisive = c.args.decisive.now in
    let now = c.push_moves.new.moves in
    let after = c.add.new.self in
    let adds : now ≡ decisive ++ moves_to move.to c.in_ok-ranges.ranges = search rules in
    answers-also c.add.result None
    (λ _. (x : Point) → in_set after x ≡ (in_range move.range x || in_set covered x))
    (λ _. (later : List Move) → DecideSoFar later covered decisive → DecideSoFar (move ∷ later) after now)
    (λ _ covers later so_far. decide-more move later decisive now covered c.in_ok-ranges.ranges after so_far
    c.in_ok-ranges.ensures.points c.in_ok-ranges.ensures.apart adds covers) c.add.ensures.answers
