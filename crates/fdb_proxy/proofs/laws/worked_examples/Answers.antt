use Rattle.std.proofs.Common.{refl}
use Rattle.fdb_keys.specs.Points.{point_lt}
use Rattle.fdb_proxy.proofs.laws.worked_examples.Goals as goal

pub returns-clause-configs : goal.returns-clause-configs
unfolding point_lt
returns-clause-configs c = (
  refl,
  refl,
  refl,
  refl,
  refl,
  refl,
  refl,
  refl,
  refl,
  refl,
  refl,
  refl,
  refl,
  refl,
  refl,
  refl,
  refl,
  refl,
)

pub returns-clause-numbers : goal.returns-clause-numbers
returns-clause-numbers c = (
  refl,
  refl,
  refl,
  refl,
  refl,
  refl,
  refl,
)

pub returns-clause-grants : goal.returns-clause-grants
returns-clause-grants c = λ client. (
  refl,
  refl,
  refl,
  refl,
  refl,
  refl,
)

pub returns-clause-spans : goal.returns-clause-spans
unfolding point_lt
returns-clause-spans c = (
  refl,
  refl,
  refl,
  refl,
  refl,
  refl,
  refl,
  refl,
  refl,
  refl,
  refl,
)
