use Rattle.std.proofs.Common.{◌≡◌, ◌∙◌, ◌<◌, sym, ap, refl, length, Some, slice_get, rules}
use Rattle.std.proofs.Common.{arith}
use Rattle.std.proofs.lemmas.Option.{slice_get_read, get_or_from_slice_get}
use Rattle.fdb_mutations.specs.Mutations.{effects}
use Rattle.fdb_proxy.specs.declared.outcome.Outcome.{Outcome}
use Rattle.fdb_roles.proofs.Exports.{within-item}
use Rattle.fdb_check.specs.Running.{runs}
use Rattle.fdb_check.proofs.ReplayLemmas.{after-next}
use Rattle.fdb_check.proofs.run.run_places.Goals as goal

pub loop-place-preserved : goal.loop-place-preserved
loop-place-preserved c base count before =
    let batch = c.args.batch.now in
    let outcomes = c.args.outcomes.now in
    let p = c.loop-place.place in
    let t = c.index-batch-place.result in
    let within : p < length batch = search rules in
    let there : slice_get batch p ≡ Some t = slice_get_read batch (length batch) p t refl within
    c.index-batch-place.is in
    let decided : p < length outcomes = omega (arith, within, count) in
    let outcome = within-item outcomes p decided in
    let same = c.outcome_of.ensures outcome.0 outcome.1
    ∙ sym (get_or_from_slice_get outcomes p outcome.0 outcome.0 outcome.1) in
    after-next base c.loop-place.map c.run_place.new.map batch outcomes p t outcome.0 there decided
    (c.loop-place.invariant base count before)
    (c.in_ok-run_place.ensures.ok
    ∙ ap (λ (decided : Outcome). effects c.loop-place.map (runs decided t)) same)
