use Rattle.std.proofs.Common.{◌≡◌, sym, subst, List, ◌∷◌, rules}
use Rattle.std.specs.Slice.Iter.{iter_rest}
use Rattle.fdb_keys.specs.Ranges.{Range}
use Rattle.fdb_client.proofs.ConflictLemmas.{PutDown, put_down-start, put_down-more, put_down-kept}
use Rattle.fdb_client.proofs.LeftAtLemmas.{on_err}
use Rattle.fdb_client.proofs.conflict_set.push_all.Goals as goal

pub loop-range-init : goal.loop-range-init
loop-range-init c =
    let all : iter_rest c.into_iter-range-iterator.result ≡ c.args.ranges.now = search rules in
    subst (λ (rest : List Range). PutDown c.args.list.now c.args.ranges.now c.args.list.now rest) (sym all)
    (put_down-start c.args.list.now c.args.ranges.now)

pub loop-range-preserved : goal.loop-range-preserved
loop-range-preserved c =
    let copy : c.in_ok-clone.field-0 ≡ c.in-Some.range.now = search rules in
    let steps : iter_rest c.loop-range.range-iterator ≡ c.in-Some.range.now ∷ iter_rest c.next.new.self =
    search rules in
    rw (c.in_ok-push.ensures.ok, copy)
    (put_down-more c.args.list.now c.args.ranges.now c.loop-range.list _ c.in-Some.range.now _ c.loop-range.invariant
    steps)

pub returns-in_err-clone-clause-err : goal.returns-in_err-clone-clause-err
returns-in_err-clone-clause-err c =
    on_err c.from_residual.result _
    (put_down-kept c.args.list.now c.args.ranges.now c.loop-range.list _ c.loop-range.invariant)
