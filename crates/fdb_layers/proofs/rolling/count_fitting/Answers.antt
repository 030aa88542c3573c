use Rattle.std.proofs.Common.{◌≡◌, ◌∙◌, sym, subst, refl, ℕ, ◌≤◌, ◌<◌, ◌+◌, length, take, sum_by, slice_get, Some}
use Rattle.std.proofs.Common.{⊎_elim, arith, rules}
use Rattle.std.proofs.Math.Logic.{inl, inr}
use Rattle.std.proofs.lemmas.Option.{slice_get_read}
use Rattle.fdb_layers.specs.Rolling.{pair_size}
use Rattle.fdb_layers.proofs.RollingLemmas.{too-many}
use Rattle.fdb_layers.proofs.rolling.count_fitting.Goals as goal

pub returns-then-size-gt-ROOM-clause-within : goal.returns-then-size-gt-ROOM-clause-within
returns-then-size-gt-ROOM-clause-within c =
    let within : c.loop-pair.pair-index < length c.args.pairs.now = search rules in
    ⊎_elim
    (λ same. omega (arith, same, within, c.loop-pair.invariant.counted))
    (λ one. omega (arith, one, within))
    c.one_at_least.ensures.same

pub returns-then-size-gt-ROOM-clause-fits : goal.returns-then-size-gt-ROOM-clause-fits
returns-then-size-gt-ROOM-clause-fits c = ⊎_elim
    (λ same. inr (subst (λ (count : ℕ). sum_by pair_size (take count c.args.pairs.now) ≤ 1_000_000)
    (sym (same ∙ c.loop-pair.invariant.counted))
    (omega (arith, c.loop-pair.invariant.summed, c.loop-pair.invariant.fits))))
    (λ one. inl one)
    c.one_at_least.ensures.same

pub returns-then-size-gt-ROOM-clause-full : goal.returns-then-size-gt-ROOM-clause-full
returns-then-size-gt-ROOM-clause-full c =
    let pairs = c.args.pairs.now in
    let index = c.loop-pair.pair-index in
    let pair = c.pair-item.result in
    let within : index < length pairs = search rules in
    let there : slice_get pairs index ≡ Some pair =
    slice_get_read pairs (length pairs) index pair refl within c.pair-item.is in
    let over : 1_000_000 < c.loop-pair.size + pair_size pair =
    omega (arith, c.if-size-gt-ROOM.true, c.pair_size-size.ensures.value) in
    let least : index ≤ c.one_at_least.result =
    omega (arith, c.loop-pair.invariant.counted, c.one_at_least.ensures.least) in
    inr (too-many pairs index c.loop-pair.size 1_000_000 c.one_at_least.result pair there
    c.loop-pair.invariant.summed over least)
