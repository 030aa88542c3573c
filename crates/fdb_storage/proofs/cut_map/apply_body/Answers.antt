use Rattle.std.proofs.Common.{◌∙◌, ap, take}
use Rattle.std.proofs.lemmas.Result.{err_from_is_err_and}
use Rattle.std.specs.FinMap.{get}
use Rattle.fdb_mutations.specs.Maps.{Map}
use Rattle.fdb_txn.specs.rules.Messages.{mutations_in}
use Rattle.fdb_storage.proofs.CutLemmas.{outside-body}
use Rattle.fdb_storage.proofs.cut_map.apply_body.Goals as goal

pub returns-in_err-apply_cut-clause-refused : goal.returns-in_err-apply_cut-clause-refused
returns-in_err-apply_cut-clause-refused c =
    let refused = err_from_is_err_and c.from_residual.result c.from_residual.ensures.1 in
    rw refused.1 (λ x apart. ap (λ (map : Map). get map x) (c.in_err-apply_cut.ensures.refused ∙ c.loop-place.invariant)
    ∙ outside-body c.args.range.now x apart c.args.map.now
    (mutations_in (take c.loop-place._place-index c.args.body.now)))
