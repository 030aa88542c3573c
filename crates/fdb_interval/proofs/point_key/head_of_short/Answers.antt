use Rattle.std.proofs.Common.{◌≡◌, ◌∙◌, sym, ◌+◌, ◌*◌, ◌^◌, ◌≤◌, get_or, arith, rules}
use Rattle.std.proofs.Math.Nat.{pow-le-pow_right}
use Rattle.fdb_interval.specs.Heads.{AreBytes}
use Rattle.fdb_interval.proofs.HeadsLemmas.{are_bytes, head-below, head-next}
use Rattle.fdb_interval.proofs.point_key.head_of_short.Goals as goal

pub overflow_mul-head : goal.overflow_mul-head
overflow_mul-head c =
    let bytes : AreBytes c.args.text.now = are_bytes c.args.text.now (λ k. (c.type_inv.text k).fits) in
    let below = head-below c.loop-place.place c.args.text.now bytes in
    let is = c.loop-place.invariant in
    let short : c.loop-place.place ≤ 7 = search rules in
    let cap : 256 ^ c.loop-place.place ≤ 256 ^ 7 = pow-le-pow_right (omega arith) short in
    search rules

pub overflow_add-head : goal.overflow_add-head
overflow_add-head c =
    let bytes : AreBytes c.args.text.now = are_bytes c.args.text.now (λ k. (c.type_inv.text k).fits) in
    let below = head-below c.loop-place.place c.args.text.now bytes in
    let is = c.loop-place.invariant in
    let short : c.loop-place.place ≤ 7 = search rules in
    let cap : 256 ^ c.loop-place.place ≤ 256 ^ 7 = pow-le-pow_right (omega arith) short in
    search rules

pub loop-place-preserved : goal.loop-place-preserved
loop-place-preserved c =
    let byte : c.from.result ≡ get_or c.args.text.now c.loop-place.place 0 = search rules in
    (λ i. c.loop-place.invariant i * 256 + byte i) ∙ sym (head-next c.loop-place.place c.args.text.now)

pub returns-clause-bytes : goal.returns-clause-bytes
returns-clause-bytes c = are_bytes c.args.text.now (λ k. (c.type_inv.text k).fits)
