use Rattle.std.proofs.Common.{refl, subst, ◌<◌, length, ℕ, rules}
use Rattle.std.proofs.lemmas.Option.{slice_get_read}
use Rattle.fdb_proxy.proofs.LoggingLemmas.{tagged-step}
use Rattle.fdb_proxy.proofs.logging.tagged_body.Goals as goal

pub loop-place-preserved : goal.loop-place-preserved
loop-place-preserved c =
    let inside : c.loop-place.place < length c.args.batch.now = search rules in
    let within : c.loop-place.place < length c.args.answers.now = subst (λ (n : ℕ). c.loop-place.place < n)
    c.requires.each inside in
    tagged-step c.args.shards.now c.args.batch.now c.args.answers.now c.loop-place.place c.index-batch-place.result _
    c.loop-place.body c.add_place.new.body
    (slice_get_read c.args.batch.now (length c.args.batch.now) c.loop-place.place c.index-batch-place.result refl inside
    c.index-batch-place.is)
    within c.loop-place.invariant c.in_ok-add_place.ensures
