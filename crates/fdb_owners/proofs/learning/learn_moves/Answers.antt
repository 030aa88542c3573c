use Rattle.std.proofs.Common.{◌≡◌, ◌∙◌, sym, ap, refl, subst, rules, ℕ, List, length, nat_le, if◌then◌else◌}
use Rattle.std.specs.List.{AllByRecursion}
use Rattle.fdb_txn.specs.declared.entry.Move.{Move}
use Rattle.fdb_owners.specs.declared.pieces.Pieces.{Pieces}
use Rattle.fdb_owners.specs.Histories.{owner_in}
use Rattle.fdb_owners.specs.Learning.{fresh_of, touched_by, with_fresh, Decide, HasBounds}
use Rattle.fdb_owners.specs.Pieces.{history_at}
use Rattle.fdb_owners.proofs.LearntLemmas.{owners-learnt, pieces-learnt}
use Rattle.fdb_owners.proofs.TouchedLemmas.{touched-learnt}
use Rattle.fdb_owners.proofs.learning.learn_moves.Goals as goal

pub returns-clause-owners : goal.returns-clause-owners
returns-clause-owners c = λ x v.
    let split = c.split_all.new.pieces in
    let others : Pieces = record { lowest = split.lowest; breaks = c.put_all.new.breaks } in
    let decisive : List Move = c.in_ok-decisive.decisive in
    let decide : Decide c.args.moves.now decisive = c.in_ok-decisive.ensures in
    let fresh : c.in_ok-fresh.fresh ≡ fresh_of c.args.version decisive split.breaks.entries = search rules in
    let there = subst (AllByRecursion (λ (move : Move). HasBounds split move.range)) c.as_slice.ensures
    c.in_ok-split_all.ensures.there in
    let before = owner_in (history_at c.args.pieces.now x) v in
    owners-learnt c.args.version decisive c.args.pieces.now split others c.split_all.ensures.split
    c.put_all.ensures.rising there refl
    (c.put_all.ensures.value ∙ ap (with_fresh split.breaks.entries) fresh) x v
    ∙ ap (λ (target : ℕ). if nat_le c.args.version v then target else before) (decide.targets x before)

pub returns-clause-pieces : goal.returns-clause-pieces
returns-clause-pieces c = λ resolvers last are later within.
    let split = c.split_all.new.pieces in
    let others : Pieces = record { lowest = split.lowest; breaks = c.put_all.new.breaks } in
    let decisive : List Move = c.in_ok-decisive.decisive in
    let decide : Decide c.args.moves.now decisive = c.in_ok-decisive.ensures in
    let fresh : c.in_ok-fresh.fresh ≡ fresh_of c.args.version decisive split.breaks.entries = search rules in
    pieces-learnt resolvers last c.args.version decisive split others c.put_all.ensures.rising later
    (decide.within resolvers within) refl (c.put_all.ensures.value ∙ ap (with_fresh split.breaks.entries) fresh)
    (c.split_all.ensures.split.kept resolvers last are)

pub returns-clause-touched : goal.returns-clause-touched
returns-clause-touched c =
    let es = c.split_all.new.pieces.breaks.entries in
    let moves = c.args.moves.now in
    let decisive : List Move = c.in_ok-decisive.decisive in
    let fresh : c.in_ok-fresh.fresh ≡ fresh_of c.args.version decisive es = search rules in
    let count : c.len-count.result ≡ length c.in_ok-fresh.fresh = search rules in
    count
    ∙ ap length fresh
    ∙ touched-learnt c.args.version moves decisive es c.in_ok-decisive.ensures c.put_all.ensures.rising
    ∙ ap (touched_by moves) (sym (c.put_all.ensures.value ∙ ap (with_fresh es) fresh))
