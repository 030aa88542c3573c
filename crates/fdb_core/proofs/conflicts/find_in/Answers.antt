use Rattle.std.proofs.Common.{◌≡◌, ◌∙◌, refl, sym, ap, subst, ⊎_elim, ℕ, ◌<◌, length, Some}
use Rattle.std.proofs.Common.{slice_get, arith}
use Rattle.std.proofs.lemmas.Bool.{both_ways, cases_eq}
use Rattle.std.proofs.lemmas.Option.{same_Some, slice_get_read, slice_get_within}
use Rattle.fdb_keys.specs.Ranges.{Range}
use Rattle.fdb_txn.specs.book.Transactions.{Transaction}
use Rattle.fdb_core.specs.refinement.Conflicts.{HasPoint, IsSetAt}
use Rattle.fdb_core.proofs.conflicts.find_in.Goals as goal

pub loop-place-preserved : goal.loop-place-preserved
loop-place-preserved c p set within its = ⊎_elim
    (λ same.
    let batch = c.args.batch.now in
    let conflicts = c.args.conflicts.now in
    let place = c.loop-place.place in
    let inside = slice_get_within batch p its.transaction its.there in
    let inside_too = slice_get_within conflicts p set its.kept in
    let at : slice_get batch place ≡ Some c.index-batch-place.result =
    slice_get_read batch (length batch) place c.index-batch-place.result refl (omega (arith, inside, same))
    c.index-batch-place.is in
    let kept : slice_get conflicts place ≡ Some c.index-conflicts-place.result =
    slice_get_read conflicts (length conflicts) place c.index-conflicts-place.result refl
    (omega (arith, inside_too, same)) c.index-conflicts-place.is in
    let transaction : its.transaction ≡ c.index-batch-place.result = same_Some its.transaction
    c.index-batch-place.result (sym its.there ∙ ap (slice_get batch) same ∙ at) in
    let ranges : set ≡ c.index-conflicts-place.result = same_Some set c.index-conflicts-place.result
    (sym its.kept ∙ ap (slice_get conflicts) same ∙ kept) in
    absurd (both_ways _ c.if-is_conflict.false
    (c.is_conflict.ensures.1
    (subst HasPoint ranges its.points, ap (λ (t : Transaction). t.id) (sym transaction) ∙ its.own))))
    (λ differs. c.loop-place.invariant p set (omega (arith, within, differs)) its)
    (cases_eq p c.loop-place.place)

pub returns : goal.returns
returns c p set its =
    let inside = slice_get_within c.args.batch.now p its.transaction its.there in
    let inside_too = slice_get_within c.args.conflicts.now p set its.kept in
    c.loop-place.invariant p set (omega (arith, inside, inside_too, c.min-count.ensures, c.loop-place-test.false)) its
