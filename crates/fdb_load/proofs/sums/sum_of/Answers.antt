use Rattle.std.proofs.Common.{◌≡◌, ◌≤◌, ◌+◌, ◌^◌, ◌∙◌, ap, sym, ℕ, List, get_or, arith}
use Rattle.fdb_keys.specs.Points.{Point}
use Rattle.fdb_load.specs.Sums.{number_of}
use Rattle.fdb_load.proofs.SumsLemmas.{told_sum-too_large}
use Rattle.fdb_load.proofs.sums.sum_of.Goals as goal

pub returns-in_err-sum : goal.returns-in_err-sum
returns-in_err-sum c =
    let pairs = c.args.pairs.now in
    let index = c.loop-pair.pair-index in
    let number : c.in_ok-number_in.field-0 ≡ number_of (get_or pairs index c.pair-item.result).1
    = c.in_ok-number_in.ensures.some.1 ∙ ap number_of c.as_slice.ensures
    ∙ ap (λ (pair : Point × List ℕ). number_of pair.1) c.pair-item.is in
    let large : 2 ^ 64 ≤ c.loop-pair.sum + number_of (get_or pairs index c.pair-item.result).1
    = omega (arith, c.in_err-sum.ensures, number) in
    c.from_residual-in_err-sum.ensures
    ∙ sym (told_sum-too_large pairs index c.loop-pair.sum c.pair-item.result c.loop-pair-test.true c.loop-pair.invariant
    large)
