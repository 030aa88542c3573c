-- A step with the keys, ranges and mutations of the store.
use Rattle.fdb_keys.specs.Points.{Point}
use Rattle.fdb_keys.specs.Ranges.{Range}
use Rattle.fdb_mutations.specs.declared.mutation.Mutation.{Mutation}
use Rattle.fdb_machine.specs.declared.step.AnyStep.{AnyStep}

abbrev pub Step : Type 0
Step = AnyStep Point Range Mutation
