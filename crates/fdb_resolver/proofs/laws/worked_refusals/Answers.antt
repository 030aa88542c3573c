use Rattle.std.proofs.Common.{refl, ◌∷◌, []}
use Rattle.fdb_keys.specs.Points.{point_lt}
use Rattle.fdb_resolver.proofs.laws.worked_refusals.Goals as goal

pub returns-clause-refusals : goal.returns-clause-refusals
returns-clause-refusals c = λ versions. (
  refl,
  refl,
  refl,
  refl,
  refl,
  refl,
  refl,
)

pub returns-clause-ages : goal.returns-clause-ages
returns-clause-ages c = (
  refl,
  refl,
  refl,
  refl,
)

pub returns-clause-finds : goal.returns-clause-finds
unfolding point_lt
returns-clause-finds c = (
  refl,
  refl,
  refl,
  refl,
  refl,
  refl,
  λ are. are,
  λ are. let other = are.0 in cc,
  λ are. let outside = are.1 (99 ∷ []) in cc,
  λ are. cc,
)
