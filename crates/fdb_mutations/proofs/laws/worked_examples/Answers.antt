use Rattle.std.proofs.Common.{ap, refl, ℕ, nat_lt, Some, None, if◌then◌else◌}
use Rattle.fdb_keys.specs.declared.refusal.Refusal.TheVariants.{ValueTooLarge}
use Rattle.fdb_keys.specs.Points.{point_lt}
use Rattle.fdb_mutations.specs.Limits.{value_limit}
use Rattle.fdb_mutations.specs.Mutations.{operand_fault}
use Rattle.fdb_mutations.proofs.laws.worked_examples.Goals as goal

pub returns-clause-left : goal.returns-clause-left
unfolding point_lt
returns-clause-left c = λ key. (
  refl,
  refl,
  refl,
  refl,
  refl,
  refl,
  refl,
  refl,
  refl,
  refl,
  refl,
  refl,
  refl,
  refl,
  refl,
  refl,
  refl,
  refl,
  refl,
  refl,
  refl,
  refl,
  refl,
  refl,
  refl,
  refl,
  refl,
  refl,
  refl,
  refl,
  refl,
)

pub returns-clause-sizes : goal.returns-clause-sizes
returns-clause-sizes c = (
  refl,
  refl,
  refl,
  refl,
  refl,
  refl,
  refl,
  refl,
  refl,
  refl,
  refl,
  refl,
  refl,
)

pub returns-clause-carried : goal.returns-clause-carried
returns-clause-carried c = λ key operand. (
  refl,
  refl,
  refl,
  refl,
  refl,
  refl,
  refl,
  refl,
  refl,
  refl,
  refl,
)

pub returns-clause-limits : goal.returns-clause-limits
returns-clause-limits c = (
  refl,
  (λ mutation bytes.
      ap (λ (count : ℕ). if nat_lt value_limit count then Some ValueTooLarge else operand_fault mutation) bytes),
  (λ key value bytes. ap (λ (count : ℕ). if nat_lt value_limit count then Some ValueTooLarge else None) bytes),
  refl,
  refl,
  refl,
  refl,
  refl,
  refl,
  refl,
  refl,
  refl,
  refl,
  refl,
  refl,
  refl,
  refl,
  refl,
  refl,
  refl,
  refl,
  refl,
  refl,
  refl,
)

pub returns-clause-clips : goal.returns-clause-clips
unfolding point_lt
returns-clause-clips c = (
  refl,
  refl,
  refl,
  refl,
  refl,
  refl,
  refl,
  refl,
  refl,
  refl,
  refl,
  refl,
  refl,
  refl,
  refl,
  refl,
  refl,
  refl,
  refl,
  refl,
  refl,
  refl,
  refl,
  (λ map. refl),
  (λ map. refl),
)

pub returns-clause-blindness : goal.returns-clause-blindness
returns-clause-blindness c = λ key operand range. (
  refl,
  refl,
  refl,
  refl,
  refl,
  refl,
  refl,
  refl,
  refl,
  refl,
  refl,
  refl,
  refl,
)
