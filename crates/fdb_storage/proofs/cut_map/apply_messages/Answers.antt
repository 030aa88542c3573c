use Rattle.std.proofs.Common.{◌∙◌, ap, take}
use Rattle.std.proofs.lemmas.Result.{err_from_is_err_and}
use Rattle.std.specs.FinMap.{get}
use Rattle.fdb_mutations.specs.Maps.{Map}
use Rattle.fdb_storage.proofs.CutLemmas.{outside-messages}
use Rattle.fdb_storage.proofs.cut_map.apply_messages.Goals as goal

pub returns-in_err-apply_body-clause-refused : goal.returns-in_err-apply_body-clause-refused
returns-in_err-apply_body-clause-refused c =
    let refused = err_from_is_err_and c.from_residual.result c.from_residual.ensures.1 in
    rw refused.1 (λ x apart. c.in_err-apply_body.ensures.refused x apart
    ∙ ap (λ (map : Map). get map x) c.loop-message.invariant
    ∙ outside-messages c.args.range.now x apart c.args.version c.args.map.now
    (take c.loop-message.message-index c.args.messages.now))
