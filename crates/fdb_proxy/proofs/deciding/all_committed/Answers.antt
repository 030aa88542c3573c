use Rattle.std.proofs.Common.{◌∙◌, sym, ap, List, [], ◌∷◌, ◌++◌, arith}
use Rattle.std.proofs.lemmas.List.FromFn.{map-range_with_len_more}
use Rattle.fdb_proxy.specs.declared.outcome.Outcome.{Outcome}
use Rattle.fdb_proxy.specs.Deciding.{outcome_by}
use Rattle.fdb_proxy.proofs.deciding.all_committed.Goals as goal

pub loop-place-preserved : goal.loop-place-preserved
loop-place-preserved c =
    c.in_ok-push.ensures.ok
    ∙ ap (λ (before : List Outcome). before ++ outcome_by c.args.version [] c.loop-place.place ∷ [])
    c.loop-place.invariant
    ∙ sym (map-range_with_len_more (outcome_by c.args.version []) 0 c.loop-place.place c.loop-place.place (omega arith))
