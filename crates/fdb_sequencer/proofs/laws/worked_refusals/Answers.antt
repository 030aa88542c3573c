use Rattle.std.proofs.Common.{refl}
use Rattle.fdb_keys.specs.Points.{point_lt}
use Rattle.fdb_sequencer.proofs.laws.worked_refusals.Goals as goal

pub returns-clause-versions : goal.returns-clause-versions
returns-clause-versions c = (
  refl,
  refl,
  refl,
  refl,
)

pub returns-clause-plans : goal.returns-clause-plans
returns-clause-plans c = (
  refl,
  refl,
  refl,
  refl,
  refl,
)

pub returns-clause-tickets : goal.returns-clause-tickets
returns-clause-tickets c = (
  refl,
  refl,
)

pub returns-clause-windows : goal.returns-clause-windows
returns-clause-windows c = (
  refl,
  refl,
  refl,
  refl,
)

pub returns-clause-horizons : goal.returns-clause-horizons
returns-clause-horizons c = (
  refl,
  refl,
  refl,
  refl,
  refl,
  refl,
  refl,
  refl,
  refl,
  refl,
  refl,
  refl,
  refl,
  refl,
)

pub returns-clause-moves : goal.returns-clause-moves
unfolding point_lt
returns-clause-moves c = (
  refl,
  refl,
  refl,
  refl,
)

pub returns-clause-reports : goal.returns-clause-reports
returns-clause-reports c = (
  refl,
  refl,
  refl,
  refl,
  refl,
  refl,
)

pub returns-clause-numbers : goal.returns-clause-numbers
returns-clause-numbers c = (
  refl,
  refl,
  refl,
  refl,
  refl,
  refl,
)
