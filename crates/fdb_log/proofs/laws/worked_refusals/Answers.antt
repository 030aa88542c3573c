use Rattle.std.proofs.Common.{refl}
use Rattle.fdb_log.proofs.laws.worked_refusals.Goals as goal

pub returns-clause-pushes : goal.returns-clause-pushes
returns-clause-pushes c = (
  refl,
  refl,
  refl,
  refl,
  refl,
  refl,
)

pub returns-clause-peeks : goal.returns-clause-peeks
returns-clause-peeks c = (
  refl,
  refl,
  refl,
  refl,
  refl,
  refl,
  refl,
  refl,
)

pub returns-clause-pops : goal.returns-clause-pops
returns-clause-pops c = (
  refl,
  refl,
  refl,
  refl,
  refl,
)

pub returns-clause-numbers : goal.returns-clause-numbers
returns-clause-numbers c = (
  refl,
  refl,
  refl,
  refl,
  refl,
  refl,
)
