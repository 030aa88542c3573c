use Rattle.std.proofs.Common.{refl}
use Rattle.fdb_book.proofs.laws.worked_refusals.Goals as goal

pub returns-clause-appends : goal.returns-clause-appends
returns-clause-appends c = (
  refl,
  refl,
  refl,
  refl,
  refl,
  refl,
  refl,
  refl,
  refl,
  refl,
)

pub returns-clause-horizons : goal.returns-clause-horizons
returns-clause-horizons c = (
  refl,
  refl,
  refl,
  refl,
  refl,
)

pub returns-clause-capacities : goal.returns-clause-capacities
returns-clause-capacities c = (
  refl,
  refl,
  refl,
  refl,
)
