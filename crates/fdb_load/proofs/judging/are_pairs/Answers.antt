use Rattle.std.proofs.Common.{List, subst}
use Rattle.std.proofs.lemmas.Result.{IfOk-weaker}
use Rattle.fdb_load.specs.declared.run.Place.{Place}
use Rattle.fdb_load.specs.Judging.{IsRunOf}
use Rattle.fdb_load.proofs.judging.are_pairs.Goals as goal

pub returns-clause-pairs : goal.returns-clause-pairs
returns-clause-pairs c =
    let kept = c.args.kept.now in
    let Run : List Place → Type 0 = IsRunOf kept.entries.now c.args.asked.now.workload kept.pairs.now in
    IfOk-weaker c.is_run.result _ _
    (λ is holds right. (
      c.in_ok-places.places.items,
      c.in_ok-places.ensures.places,
      subst Run c.as_slice.ensures.value (holds right),
    )) c.is_run.ensures.run
