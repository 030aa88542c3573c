use Rattle.std.proofs.Common.{◌≡◌, All, None}
use Rattle.fdb_mutations.specs.Mutations.{mutation_fault}
use Rattle.fdb_bench.proofs.sealed.sets_of.Given as goal

abbrev pub invariant-loop-key : goal.invariant-loop-key
invariant-loop-key l = All (λ set. mutation_fault set ≡ None) l.sets
