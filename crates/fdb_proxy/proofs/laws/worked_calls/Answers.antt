use Rattle.std.proofs.Common.{refl}
use Rattle.fdb_keys.specs.Insertion.{inserted}
use Rattle.fdb_keys.specs.Points.{point_lt}
use Rattle.fdb_proxy.proofs.laws.worked_calls.Goals as goal

pub returns-clause-submitting : goal.returns-clause-submitting
returns-clause-submitting c = (
  refl,
  refl,
)

pub returns-clause-sealing : goal.returns-clause-sealing
returns-clause-sealing c = (
  refl,
  refl,
  refl,
  refl,
  refl,
  refl,
)

pub returns-clause-verdict : goal.returns-clause-verdict
returns-clause-verdict c = (
  refl,
  refl,
  refl,
)

pub returns-clause-deciding : goal.returns-clause-deciding
returns-clause-deciding c = (
  refl,
  refl,
  refl,
)

pub returns-clause-conflicts : goal.returns-clause-conflicts
unfolding point_lt inserted
returns-clause-conflicts c = (
  refl,
  refl,
  refl,
  refl,
  refl,
  refl,
)

pub returns-clause-logged : goal.returns-clause-logged
returns-clause-logged c = (
  refl,
  refl,
  refl,
  refl,
  refl,
  refl,
)

pub returns-clause-finishing : goal.returns-clause-finishing
returns-clause-finishing c = refl
