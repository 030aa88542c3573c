use Rattle.std.proofs.Common.{◌≡◌, refl, ap, get_or, arith}
use Rattle.fdb_play.specs.declared.random.tally.Tally.{Tally}
use Rattle.fdb_play.proofs.lemmas.Tallies.{count_steps}
use Rattle.fdb_play.proofs.laws.worked_examples.Goals as goal

pub returns-clause-counts : goal.returns-clause-counts
returns-clause-counts c = (refl, refl, refl, refl, refl, refl, refl, refl, refl)

pub returns-clause-notes : goal.returns-clause-notes
returns-clause-notes c = (
  refl,
  refl,
  refl,
  refl,
  refl,
  (λ same. let one : 1 ≡ 0 = ap (λ (it : Tally). it.refused) same in absurd (omega (arith, one))),
  (λ same. let one : 1 ≡ 0 = ap (λ (it : Tally). get_or it.refusals 12 0) same in absurd (omega (arith, one))),
  (λ same. let one : 1 ≡ 0 = ap (λ (it : Tally). get_or it.refused_kinds 6 0) same in absurd (omega (arith, one))),
  (λ same. let one : 1 ≡ 0 = ap (λ (it : Tally). get_or it.refusals 12 0) same in absurd (omega (arith, one))),
  (λ same. let one : 1 ≡ 0 = ap (λ (it : Tally). it.refused) same in absurd (omega (arith, one))),
  (λ same. let one : 1 ≡ 0 = ap (λ (it : Tally). it.read_only) same in absurd (omega (arith, one))),
)

pub returns-clause-steps : goal.returns-clause-steps
returns-clause-steps c = (
  (refl, refl, refl),
  (refl, refl, refl),
  (refl, refl, refl),
  (λ counted. let one : 0 ≡ 1 = counted.0 in absurd (omega (arith, one))),
  (λ counted. let one : 1 ≡ 0 = counted.0 in absurd (omega (arith, one))),
  (λ counted. let one : 0 ≡ 1 = counted.1 in absurd (omega (arith, one))),
  (λ counted. let one : 0 ≡ 1 = counted.2 in absurd (omega (arith, one))),
  (λ old new counts.
      let one : 0 ≡ 1 = (count_steps 1 old new _ (omega arith) counts).1.0 in absurd (omega (arith, one))),
)

pub returns-clause-reports : goal.returns-clause-reports
returns-clause-reports c = (
  refl,
  refl,
  refl,
  refl,
  (λ same. let one : 0 ≡ 1 = same in absurd (omega (arith, one))),
  refl,
)
