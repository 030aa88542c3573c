use Rattle.std.proofs.Common.{◌≡◌, ◌<◌, ℕ, zero, suc, refl, codes, Some, arith}
use Rattle.std.proofs.lemmas.Option.{same_Some}
use Rattle.fdb_load.specs.Examples.{three_keys}
use Rattle.fdb_load.specs.Rings.{name_after, first_name}
use Rattle.fdb_load.proofs.laws.worked_examples.Goals as goal

pub returns-clause-sums : goal.returns-clause-sums
returns-clause-sums c = (refl, refl, refl, refl, refl, refl, refl)

-- one step and two lead elsewhere
away : (fewer : ℕ) → 0 < fewer → fewer < 3 → name_after three_keys fewer ≡ Some first_name → ⊥
unfolding name_after
away zero any below back = absurd (omega arith)
away (suc zero) any below back = let same : Some (codes "r/02") ≡ Some (codes "r/00") = back in absurd (cc)
away (suc (suc zero)) any below back = let same : Some (codes "r/01") ≡ Some (codes "r/00") = back in absurd (cc)
away (suc (suc (suc fewer))) any below back = absurd (omega arith)

pub returns-clause-rings : goal.returns-clause-rings
unfolding name_after
returns-clause-rings c = (
  refl,
  refl,
  refl,
  refl,
  refl,
  refl,
  refl,
  refl,
  refl,
  refl,
  (omega arith, refl, away),
  (λ back. away 2 (omega arith) (omega arith) back.1),
  (λ back. back.2 3 (omega arith) (omega arith) refl),
  (λ back. absurd (omega (arith, back.0))),
)

pub returns-clause-workloads : goal.returns-clause-workloads
unfolding name_after
returns-clause-workloads c = (
  (λ left. let same : 3 ≡ 32 = left.0 in absurd (omega arith)),
  (refl, refl),
  (λ left. let same : Some 32 ≡ Some 32000 = left.1 in absurd (omega (arith, same_Some 32 32000 same))),
  (refl, refl),
  (λ left. let same : Some 10 ≡ Some 9 = left.1 in absurd (omega (arith, same_Some 10 9 same))),
  (λ left. let same : 3 ≡ 4 = left.0 in absurd (omega arith)),
)

pub returns-clause-places : goal.returns-clause-places
returns-clause-places c = (refl, refl, refl, refl, refl, refl, refl)
