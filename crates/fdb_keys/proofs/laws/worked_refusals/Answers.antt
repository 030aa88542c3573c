use Rattle.std.proofs.Common.{refl}
use Rattle.fdb_keys.specs.Points.{point_lt}
use Rattle.fdb_keys.proofs.laws.worked_refusals.Goals as goal

pub returns-clause-codes : goal.returns-clause-codes
returns-clause-codes c = (
  refl,
  refl,
  refl,
  refl,
  refl,
  refl,
  refl,
  refl,
  refl,
  refl,
  refl,
  refl,
  refl,
  refl,
  refl,
  refl,
  refl,
  refl,
  refl,
  refl,
  refl,
  refl,
  refl,
  refl,
  refl,
  refl,
)

pub returns-clause-keys : goal.returns-clause-keys
returns-clause-keys c = (
  refl,
  refl,
  refl,
  refl,
  refl,
)

pub returns-clause-ranges : goal.returns-clause-ranges
unfolding point_lt
returns-clause-ranges c = (
  refl,
  refl,
  refl,
  refl,
  refl,
  refl,
)

pub returns-clause-names : goal.returns-clause-names
returns-clause-names c = (
  refl,
  refl,
  refl,
  refl,
  refl,
  refl,
  refl,
  refl,
  refl,
  refl,
  refl,
  refl,
  refl,
  refl,
  refl,
  refl,
  refl,
  refl,
  refl,
  refl,
  refl,
  refl,
  refl,
  refl,
  refl,
  refl,
)

pub returns-clause-limits : goal.returns-clause-limits
returns-clause-limits c = (
  refl,
  refl,
)

pub returns-clause-lengths : goal.returns-clause-lengths
unfolding point_lt
returns-clause-lengths c = (
  λ text bytes. rw bytes refl,
  λ text bytes. rw bytes refl,
  λ text bytes. rw bytes refl,
  λ text bytes. rw bytes refl,
  λ text bytes. rw bytes refl,
  λ text bytes. rw bytes refl,
  λ text bytes. rw bytes refl,
  λ text bytes. rw bytes refl,
  λ text bytes. rw bytes refl,
  λ text bytes. rw bytes refl,
)
