use Rattle.std.proofs.Common.{◌≡◌, sym, subst, ℕ, ◌+◌, ◌<◌, refl, List, length, take, Some, slice_get}
use Rattle.std.proofs.Common.{rules}
use Rattle.std.specs.List.{AllByRecursion}
use Rattle.std.proofs.lemmas.Option.{slice_get_read}
use Rattle.fdb_keys.specs.Points.{Point}
use Rattle.fdb_layers.proofs.QueueingLemmas.{IsNoOlder, older-least, older-there}
use Rattle.fdb_layers.proofs.queueing.oldest.Goals as goal

pub loop-pair-preserved : goal.loop-pair-preserved
loop-pair-preserved c =
    let pairs = c.args.pairs.now in
    let index = c.loop-pair.pair-index in
    let one = c.loop-pair.oldest.now in
    let pair = c.pair-item.result in
    let within : index < length pairs = search rules in
    let next : slice_get pairs index ≡ Some pair =
    slice_get_read pairs (length pairs) index pair refl within c.pair-item.is in
    record {
      there = subst (λ (it : Point × List ℕ). (at : ℕ) × (slice_get pairs at ≡ Some it)) (sym c.older-oldest.ensures)
          (older-there pairs index one pair next c.loop-pair.invariant.there);
      least = subst (λ (it : Point × List ℕ). AllByRecursion (IsNoOlder it) (take (index + 1) pairs))
          (sym c.older-oldest.ensures) (older-least pairs index one pair next c.loop-pair.invariant.least);
    }
