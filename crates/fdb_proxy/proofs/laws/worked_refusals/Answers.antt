use Rattle.std.proofs.Common.{refl}
use Rattle.fdb_proxy.proofs.laws.worked_refusals.Goals as goal

pub returns-clause-submits : goal.returns-clause-submits
returns-clause-submits c = (
  refl,
  refl,
  refl,
  refl,
  refl,
  refl,
  refl,
)

pub returns-clause-seals : goal.returns-clause-seals
returns-clause-seals c = (
  refl,
  refl,
  refl,
  refl,
  refl,
  refl,
  refl,
)

pub returns-clause-stages : goal.returns-clause-stages
returns-clause-stages c = (
  refl,
  refl,
  refl,
  refl,
  refl,
)

pub returns-clause-tickets : goal.returns-clause-tickets
returns-clause-tickets c = (
  refl,
  refl,
  refl,
  refl,
  refl,
  refl,
  refl,
)

pub returns-clause-verdicts : goal.returns-clause-verdicts
returns-clause-verdicts c = (
  refl,
  refl,
  refl,
  refl,
  refl,
  refl,
  refl,
  refl,
  refl,
  refl,
  refl,
  refl,
  refl,
)

pub returns-clause-decisions : goal.returns-clause-decisions
returns-clause-decisions c = (
  refl,
  refl,
  refl,
  refl,
  refl,
  refl,
  refl,
  refl,
  refl,
  refl,
)

pub returns-clause-logging : goal.returns-clause-logging
returns-clause-logging c = (
  refl,
  refl,
  refl,
  refl,
  refl,
  refl,
  refl,
  refl,
  refl,
  refl,
  refl,
  refl,
  refl,
  refl,
  refl,
  refl,
  refl,
  refl,
  refl,
  refl,
  refl,
  refl,
)
