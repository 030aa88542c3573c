use Rattle.std.proofs.Common.{refl}
use Rattle.fdb_keys.specs.Points.{point_lt}
use Rattle.fdb_storage.proofs.laws.worked_refusals.Goals as goal

pub returns-clause-reads : goal.returns-clause-reads
unfolding point_lt
returns-clause-reads c = (
  refl,
  refl,
  refl,
  refl,
  refl,
  refl,
  refl,
  refl,
  refl,
  refl,
  refl,
  refl,
  refl,
)

pub returns-clause-parts : goal.returns-clause-parts
unfolding point_lt
returns-clause-parts c = (
  refl,
  refl,
  refl,
  refl,
  refl,
  refl,
  refl,
  refl,
)

pub returns-clause-stamped : goal.returns-clause-stamped
returns-clause-stamped c = (
  refl,
  refl,
  refl,
  refl,
  refl,
  refl,
  refl,
  refl,
)

pub returns-clause-applies : goal.returns-clause-applies
returns-clause-applies c = (
  refl,
  refl,
  refl,
  refl,
  refl,
  refl,
  refl,
  refl,
  refl,
  refl,
  refl,
)

pub returns-clause-floors : goal.returns-clause-floors
returns-clause-floors c = (
  refl,
  refl,
  refl,
  refl,
)
