use Rattle.std.proofs.Common.{refl, ap, arith, inl, inr, ⊎_elim, [], ◌∷◌}
use Rattle.std.proofs.lemmas.Bool.{both_ways}
use Rattle.fdb_keys.specs.Points.{Point, point_lt}
use Rattle.fdb_interval.proofs.laws.worked_pieces.Goals as goal

pub returns : goal.returns
unfolding point_lt
returns c = (
  (refl, omega arith, inr (refl, λ same. omega (arith, same)), (refl, omega arith, tt, tt)),
  (refl, omega arith, inl refl, (refl, omega arith, tt, tt)),
  λ maximal. ⊎_elim (λ behind. absurd (both_ways _ refl behind)) (λ touching. touching.1 refl) maximal.2,
  λ maximal. omega (arith, maximal.1),
  λ maximal. absurd (both_ways _ refl maximal.0),
  λ maximal. ⊎_elim (λ behind. absurd (both_ways _ refl behind)) (λ touching.
      absurd (both_ways _ refl (ap (λ (x : Point). point_lt x (99 ∷ [])) touching.0))) maximal.2,
  λ maximal. ⊎_elim (λ behind. absurd (both_ways _ refl behind)) (λ touching.
      absurd (both_ways _ refl (ap (λ (x : Point). point_lt x (99 ∷ [])) touching.0))) maximal.2,
)
